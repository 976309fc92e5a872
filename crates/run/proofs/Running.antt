-- The promise of `run`, by what the reader answered. Assumes nothing.
use Prim.Native.Nat.{ℕ, ◌≤◌}
use mathlib.Core.Path.{◌≡◌, refl, sym, ap, ◌∙◌}
use mathlib.Core.Bool.{Bool, true, false}
use mathlib.Core.List.{List}
use native.Mathlib.Omega.{arith}
use lib.Ieee.{Float}
use lib.ListN.{length, replicate, length-replicate}
use Rattle.base.specs.Pick.{pick}
use Rattle.base.specs.Buffers.{over}
use Rattle.base.specs.declared.Refusal.{Refusal}
use Rattle.rules.specs.Limits.{job_limit}
use Rattle.rules.specs.Job.{Field, Reading, refused_at, whole, job_of, read}
use Rattle.rules.specs.Lines.{refused_line, lines_of, printed, lines_of_failed, printed_after_failure, said}
use Rattle.rules.specs.Calls.{RunPromise}
use Rattle.job.specs.Read.{decoded_of, Lists, lists_of, filled, answer_of, lists_left}
use Rattle.std.specs.Prelude.{Ok, Err}
use Rattle.base.specs.Verdicts.{number_of}
use Rattle.base.specs.declared.Reason.TheVariants.{JobCut}
use Rattle.job.specs.declared.fronts.Job as code
use Rattle.job.specs.declared.fill.Decoded.{Decoded}
use Rattle.job.proofs.Accepted.{read_small}
use Rattle.lines.specs.Written.{Written}
use Rattle.lines.proofs.Writing.{front_over}
use Rattle.lines.specs.Written.{told, lines_by}
use Rattle.job_answer.specs.Mapped.{answer_in}
use Rattle.run.specs.Held.{Held, Fronts}
use Rattle.run.proofs.Fronts.{Sized, parallel, within, held, lines_front}

-- the arrays before the reading
pub sized : {zero : Float} → Sized (lists_of (replicate 512 0) (replicate 2048 0) (replicate 2048 0) (replicate 2048 0) (replicate 513 zero) (replicate 513 zero) (replicate 513 0) (replicate 513 0))
sized {zero} = record {
  query_is = length-replicate {A = ℕ} 512 0;
  hashes_are = length-replicate {A = ℕ} 2048 0;
  starts_are = length-replicate {A = ℕ} 2048 0;
  ends_are = length-replicate {A = ℕ} 2048 0;
  identities_are = length-replicate {A = Float} 513 zero;
  uppers_are = length-replicate {A = Float} 513 zero;
  identity_bits_are = length-replicate {A = ℕ} 513 0;
  upper_bits_are = length-replicate {A = ℕ} 513 0;
}

-- lines that are written are what is said
pub promise_by : (failed : Bool) (bytes lines entry exit : List ℕ) (r : ℕ) → Written 0 lines entry r exit → lines ≡ said failed bytes → RunPromise failed bytes r entry exit
promise_by failed bytes lines entry exit r w e =
    let f = front_over w in
    record { count = f.0 ∙ ap length e; written = f.1 ∙ ap (λ (l : List ℕ). over l entry) e }

-- a refusal of the bytes is said, whether or not reading failed
pub said_refused : (failed : Bool) (bytes : List ℕ) (x : Refusal) → Err x ≡ answer_of (read bytes) → refused_line (number_of x.reason) x.place ≡ said failed bytes
unfolding said printed printed_after_failure pick answer_of lines_of lines_of_failed
said_refused failed bytes x e = go (read bytes) failed e
  where
    go : (y : Reading) (f : Bool) → Err x ≡ answer_of y → refused_line (number_of x.reason) x.place ≡ pick f (lines_of_failed (length bytes) y) (lines_of y)
    go (refused_at n p) true q = let same : x ≡ record { reason = n; place = p } = cc in ap (λ (y : Refusal). refused_line (number_of y.reason) y.place) same
    go (refused_at n p) false q = let same : x ≡ record { reason = n; place = p } = cc in ap (λ (y : Refusal). refused_line (number_of y.reason) y.place) same
    go (whole seen) f q = absurd (let z : ◌≡◌ {A = ℕ} 0 1 = cc in omega arith)

module _ (bytes : List ℕ) (d : Decoded) (e : Ok d ≡ answer_of (read bytes)) where
  -- the bytes are a job
  pub is_read : (seen : List Field) × (read bytes ≡ whole seen) × (d ≡ decoded_of (job_of seen))
  unfolding answer_of
  is_read = go (read bytes) refl e
    where
      go : (y : Reading) → read bytes ≡ y → Ok d ≡ answer_of y → (seen : List Field) × (read bytes ≡ whole seen) × (d ≡ decoded_of (job_of seen))
      go (refused_at n p) q a = absurd (let z : ◌≡◌ {A = ℕ} 0 1 = cc in omega arith)
      go (whole seen) q a = (seen, q, cc)

  -- whose bytes are counted in 32 bits
  pub small : length bytes ≤ job_limit
  small = (read_small bytes is_read.0 is_read.1).0

  -- a whole job after which reading failed was not seen to end
  pub said_cut : refused_line (number_of JobCut) (length bytes) ≡ said true bytes
  unfolding said printed_after_failure pick lines_of_failed
  said_cut = sym (ap (lines_of_failed (length bytes)) is_read.1)

  module _ (before after : Lists) (sized : Sized before) (left : after ≡ lists_left (read bytes) before) where
    filled_is : after ≡ filled (job_of is_read.0) before
    unfolding lists_left
    filled_is = left ∙ ap (λ (y : Reading). lists_left y before) is_read.1

    pub job_held : Held d after
    job_held = rw (is_read.2, filled_is) (held (job_of is_read.0) (parallel is_read.0) before (within bytes is_read.0 is_read.1) sized)

    pub said_job : (x : code.Job) → Fronts d after x → lines_by x.identity_bits.now x.upper_bits.now (told (answer_in x)) ≡ said false bytes
    unfolding said printed pick lines_of
    said_job x f =
        let seen = is_read.0 in
        let g = rw (is_read.2, filled_is) at f in
        lines_front (job_of seen) (parallel seen) before x g ∙ sym (ap lines_of is_read.1)
