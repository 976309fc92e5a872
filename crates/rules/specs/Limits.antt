-- The numbers of the paper, each named once.
use Rattle.std.specs.Prelude.{ℕ}

-- Numbers a call may carry: query hashes
abbrev pub query_limit : ℕ
query_limit = 4096

-- reference items or hits
abbrev pub item_limit : ℕ
item_limit = 61440

-- groups of hits
abbrev pub group_limit : ℕ
group_limit = 4096

-- script steps
abbrev pub step_limit : ℕ
step_limit = 65536

-- script coordinates
abbrev pub coord_limit : ℕ
coord_limit = 65536

-- minimum hits
abbrev pub minimum_limit : ℕ
minimum_limit = 2147483647

-- The kinds of a script's step: delete
abbrev pub delete_kind : ℕ
delete_kind = 0

-- and insert
abbrev pub insert_kind : ℕ
insert_kind = 1

-- Numbers a job may carry: bytes
abbrev pub job_limit : ℕ
job_limit = 65535

-- query hashes
abbrev pub job_query_limit : ℕ
job_query_limit = 512

-- items
abbrev pub job_item_limit : ℕ
job_item_limit = 2048

-- estimates
abbrev pub job_estimate_limit : ℕ
job_estimate_limit = 513

-- The tags of a job's fields
abbrev pub version_tag : ℕ
version_tag = 0x01

abbrev pub mode_tag : ℕ
mode_tag = 0x02

abbrev pub settings_tag : ℕ
settings_tag = 0x03

abbrev pub minimum_tag : ℕ
minimum_tag = 0x04

abbrev pub query_tag : ℕ
query_tag = 0x05

abbrev pub items_tag : ℕ
items_tag = 0x06

abbrev pub estimates_tag : ℕ
estimates_tag = 0x07

abbrev pub end_tag : ℕ
end_tag = 0xff

-- The one version, and the two modes
abbrev pub version : ℕ
version = 1

abbrev pub minimizer_mode : ℕ
minimizer_mode = 0

abbrev pub interval_mode : ℕ
interval_mode = 1

-- Sizes in bytes: a field's tag and length
abbrev pub header_size : ℕ
header_size = 3

-- a u32
abbrev pub size32 : ℕ
size32 = 4

-- a u64 or an f64
abbrev pub size64 : ℕ
size64 = 8

-- the settings: five u32
abbrev pub settings_size : ℕ
settings_size = 20

-- an item: hash u64 and position u32
abbrev pub item_size : ℕ
item_size = 12

-- an interval: hash u64, start and end u32
abbrev pub interval_size : ℕ
interval_size = 16

-- an estimate: identity and upper bound f64
abbrev pub estimate_size : ℕ
estimate_size = 16
