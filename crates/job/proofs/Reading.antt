-- What the verdict tells of the reading, and that the promise of `read` leaves nothing open. Assumes nothing.
use Prim.Native.Nat.{ℕ}
use mathlib.Core.Path.{◌≡◌, refl, sym, ap, ◌∙◌}
use mathlib.Core.List.{List}
use native.Mathlib.Omega.{arith}
use Rattle.std.specs.Prelude.{Result, Ok, Err}
use Rattle.base.specs.declared.Refusal.{Refusal}
use Rattle.rules.specs.Job.{Field, Reading, refused_at, whole, mode_of, job_of, read}
use Rattle.job_fields.specs.Mode.{mode_at}
use Rattle.job_fields.specs.Judge.{verdict_of}
use Rattle.job_fields.specs.declared.mode.Mode.{Mode}
use Rattle.job.specs.Units.{fields_in, Accepted}
use Rattle.job.specs.Read.{decoded, decoded_of, Lists, filled, answer_of, lists_left, ReadPromise}
use Rattle.job.specs.declared.fill.Decoded.{Decoded}
use Rattle.job.proofs.Accepted.{accepted, all_fields}

-- refused
module _ (job : List ℕ) (r : Refusal) (e : Err r ≡ verdict_of (read job)) where
  pub refused_promise : (l : Lists) → ReadPromise job (Err r) l l
  unfolding verdict_of answer_of lists_left
  refused_promise l = go (read job) refl e
    where
      go : (x : Reading) → read job ≡ x → Err r ≡ verdict_of x → ReadPromise job (Err r) l l
      go (refused_at n p) q v = let same : r ≡ record { reason = n; place = p } = cc in record { answer = ap Err same ∙ sym (ap answer_of q); left = sym (ap (λ (x : Reading). lists_left x l) q) }
      go (whole seen) q v = absurd (let z : ◌≡◌ {A = ℕ} 0 1 = cc in omega arith)

-- whole, of a mode
module _ (job : List ℕ) (mode : Mode) (e : Ok mode ≡ verdict_of (read job)) where
  is_whole : (all : List Field) × (read job ≡ whole all) × (mode ≡ mode_at (mode_of all))
  unfolding verdict_of
  is_whole = go (read job) refl e
    where
      go : (x : Reading) → read job ≡ x → Ok mode ≡ verdict_of x → (all : List Field) × (read job ≡ whole all) × (mode ≡ mode_at (mode_of all))
      go (refused_at n p) q v = absurd (let z : ◌≡◌ {A = ℕ} 0 1 = cc in omega arith)
      go (whole seen) q v = (seen, q, cc)

  pub is_accepted : Accepted job
  is_accepted = accepted job is_whole.0 is_whole.1

  pub mode_is : mode ≡ mode_at (mode_of (fields_in job))
  mode_is = let w = is_whole in w.2 ∙ ap (λ (fs : List Field). mode_at (mode_of fs)) (all_fields job w.0 w.1)

  pub read_promise : (d : Decoded) (before after : Lists) → d ≡ decoded_of (decoded job) → after ≡ filled (decoded job) before → ReadPromise job (Ok d) before after
  unfolding answer_of lists_left decoded
  read_promise d before after x y =
      let w = is_whole in
      let fields = all_fields job w.0 w.1 in
      record {
        answer = ap Ok (x ∙ ap (λ (fs : List Field). decoded_of (job_of fs)) (sym fields)) ∙ sym (ap answer_of w.1);
        left = y ∙ ap (λ (fs : List Field). filled (job_of fs) before) (sym fields) ∙ sym (ap (λ (z : Reading). lists_left z before) w.1);
      }

-- two that keep the promise, over the same lists, agree
pub read_unique : (job : List ℕ) (r r' : Result Decoded Refusal) (before after after' : Lists) → ReadPromise job r before after → ReadPromise job r' before after' → (r ≡ r') × (after ≡ after')
read_unique job r r' before after after' p q = (p.answer ∙ sym q.answer, p.left ∙ sym q.left)
