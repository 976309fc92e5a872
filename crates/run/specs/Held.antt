-- The lists that a reading filled hold the job at their fronts.
use Rattle.std.specs.Prelude.{◌≡◌, ◌≤◌, length, take}
use Rattle.rules.specs.Limits.{job_query_limit, job_item_limit}
use Rattle.job.specs.Read.{Lists, lists_of}
use Rattle.job.specs.declared.fill.Decoded.{Decoded}
use Rattle.job.specs.declared.fronts.Job.{Job}
use Rattle.run.specs.declared.room.JobRoom.{JobRoom}

-- the lists of a room
abbrev pub lists_in : JobRoom → Lists
lists_in r = lists_of r.query r.hashes r.starts r.ends r.identities r.uppers r.identity_bits r.upper_bits

-- the fronts stand in the lists, and are within the program's limits
pub record Held (d : Decoded) (l : Lists) : Type 0 where
  pub query_room : d.query ≤ length l.query
  pub hash_room : d.items ≤ length l.hashes
  pub start_room : d.items ≤ length l.starts
  pub end_room : d.items ≤ length l.ends
  pub identity_room : d.estimates ≤ length l.identities
  pub upper_room : d.estimates ≤ length l.uppers
  pub identity_bit_room : d.estimates ≤ length l.identity_bits
  pub upper_bit_room : d.estimates ≤ length l.upper_bits
  pub few_hashes : d.query ≤ job_query_limit
  pub few_items : d.items ≤ job_item_limit

-- a job is what was decoded, with these fronts
pub record Fronts (d : Decoded) (l : Lists) (j : Job) : Type 0 where
  pub mode : j.mode ≡ d.mode
  pub asked : j.asked ≡ d.asked
  pub minimum : j.minimum ≡ d.minimum
  pub query : j.query.now ≡ take d.query l.query
  pub hashes : j.hashes.now ≡ take d.items l.hashes
  pub starts : j.starts.now ≡ take d.items l.starts
  pub ends : j.ends.now ≡ take d.items l.ends
  pub identities : j.identities.now ≡ take d.estimates l.identities
  pub uppers : j.uppers.now ≡ take d.estimates l.uppers
  pub identity_bits : j.identity_bits.now ≡ take d.estimates l.identity_bits
  pub upper_bits : j.upper_bits.now ≡ take d.estimates l.upper_bits
