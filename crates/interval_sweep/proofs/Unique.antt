-- The contract of `interval_sweep` determines its answer and every list that it was lent: two calls on the same lists end alike. Each field of the promise is an
-- equation with a definition of the input. Assumes nothing.
use mathlib.Core.Path.{◌≡◌, ap}
use mathlib.Core.List.{List}
use Prim.Native.Nat.{ℕ}
use Rattle.base.specs.Answers.{SweepAnswer}
use Rattle.rules.specs.Sweep.{Sweep}
use Rattle.rules.specs.Calls.{SweepLent, IntervalPromise}
use Rattle.rules.proofs.Unique.{interval_unique}
use Rattle.interval_sweep.specs.Given.{lent_of}

pub interval_call_unique : (s : Sweep) (before : SweepLent) (es : List ℕ) {r r₂ : SweepAnswer} {hs cs ds ws ss fs hs₂ cs₂ ds₂ ws₂ ss₂ fs₂ : List ℕ}
    → IntervalPromise s r before (lent_of hs cs ds ws ss) es fs → IntervalPromise s r₂ before (lent_of hs₂ cs₂ ds₂ ws₂ ss₂) es fs₂
    → (r ≡ r₂) × (hs ≡ hs₂) × (cs ≡ cs₂) × (ds ≡ ds₂) × (ws ≡ ws₂) × (ss ≡ ss₂) × (fs ≡ fs₂)
interval_call_unique s before es {r} {r₂} {fs = fs} {fs₂ = fs₂} p q =
    let u = interval_unique s r r₂ before _ _ es fs fs₂ p q in
    (u.0, ap (λ (b : SweepLent). b.hashes) u.1, ap (λ (b : SweepLent). b.counts) u.1, ap (λ (b : SweepLent). b.coords) u.1, ap (λ (b : SweepLent). b.words) u.1, ap (λ (b : SweepLent). b.summary) u.1, u.2)
