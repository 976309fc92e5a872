-- What reading a job promises: what it answers, and what the lent lists hold at exit.
use Rattle.std.specs.Prelude.{ℕ, ◌≡◌, List, Float, Result, Ok, Err, length}
use Rattle.base.specs.Buffers.{over}
use Rattle.rules.specs.Limits.{size32}
use Rattle.rules.specs.Job.{Job, job_of, number_at, Reading, refused_at, whole, read}
use Rattle.job.specs.Units.{fields_in}
use Rattle.base.specs.declared.Refusal.{Refusal}
use Rattle.job_fields.specs.Mode.{mode_at}
use Rattle.job.specs.declared.fill.Asked.{Asked}
use Rattle.job.specs.declared.fill.Decoded.{Decoded}

-- what is asked, by its five numbers
abbrev pub asked_by : (kmer window length start end : ℕ) → Asked
asked_by kmer window length start end =
    record { settings = record { kmer = kmer; length = length }; window = window; range = record { start = start; end = end } }

-- by the bytes of 03
unfoldable pub asked_of : List ℕ → Asked
asked_of bytes = asked_by (number_at 0 size32 bytes) (number_at 4 size32 bytes) (number_at 8 size32 bytes) (number_at 12 size32 bytes) (number_at 16 size32 bytes)

-- the job of a file in which nothing is wrong
unfoldable pub decoded : List ℕ → Job
decoded job = job_of (fields_in job)

-- what it tells beside the lists, and how long they are
unfoldable pub decoded_of : Job → Decoded
decoded_of j =
    record {
      mode = mode_at j.mode;
      asked = record { settings = j.sweep.settings; window = j.sweep.window; range = j.sweep.range };
      minimum = j.sweep.minimum;
      query = length j.sweep.query;
      items = length j.sweep.hashes;
      estimates = length j.identity_bits;
    }

-- the lists that are lent
pub record Lists : Type 0 where
  pub query : List ℕ
  pub hashes : List ℕ
  pub starts : List ℕ
  pub ends : List ℕ
  pub identities : List Float
  pub uppers : List Float
  pub identity_bits : List ℕ
  pub upper_bits : List ℕ

abbrev pub lists_of : (query hashes starts ends : List ℕ) (identities uppers : List Float) (identity_bits upper_bits : List ℕ) → Lists
lists_of query hashes starts ends identities uppers identity_bits upper_bits =
    record {
      query = query;
      hashes = hashes;
      starts = starts;
      ends = ends;
      identities = identities;
      uppers = uppers;
      identity_bits = identity_bits;
      upper_bits = upper_bits;
    }

-- the job's over the front of each; what is past it is kept
unfoldable pub filled : Job → Lists → Lists
filled j l =
    lists_of (over j.sweep.query l.query) (over j.sweep.hashes l.hashes) (over j.sweep.starts l.starts) (over j.sweep.ends l.ends)
    (over j.sweep.identities l.identities) (over j.sweep.uppers l.uppers) (over j.identity_bits l.identity_bits) (over j.upper_bits l.upper_bits)

-- the items' part of it
pub record Items (j : Job) (r : ℕ) (hashes starts ends hashes' starts' ends' : List ℕ) : Type 0 where
  pub count : r ≡ length j.sweep.hashes
  pub hashes_left : hashes' ≡ over j.sweep.hashes hashes
  pub starts_left : starts' ≡ over j.sweep.starts starts
  pub ends_left : ends' ≡ over j.sweep.ends ends

-- the estimates'
pub record Estimates (j : Job) (r : ℕ) (identities uppers : List Float) (identity_bits upper_bits : List ℕ) (identities' uppers' : List Float) (identity_bits' upper_bits' : List ℕ) : Type 0 where
  pub count : r ≡ length j.identity_bits
  pub identities_left : identities' ≡ over j.sweep.identities identities
  pub uppers_left : uppers' ≡ over j.sweep.uppers uppers
  pub identity_bits_left : identity_bits' ≡ over j.identity_bits identity_bits
  pub upper_bits_left : upper_bits' ≡ over j.upper_bits upper_bits

-- The answer of a reading: the refusal with its offset, or what the job tells
unfoldable pub answer_of : Reading → Result Decoded Refusal
answer_of (refused_at why place) = Err (record { reason = why; place = place })
answer_of (whole seen) = Ok (decoded_of (job_of seen))

-- and the lists at exit: refused, as they were; else the job's over their fronts
unfoldable pub lists_left : Reading → Lists → Lists
lists_left (refused_at why place) l = l
lists_left (whole seen) l = filled (job_of seen) l

-- `read`: answer and lists are those of the rules' reading of these bytes
pub record ReadPromise (job : List ℕ) (r : Result Decoded Refusal) (before after : Lists) : Type 0 where
  pub answer : r ≡ answer_of (read job)
  pub left : after ≡ lists_left (read job) before
