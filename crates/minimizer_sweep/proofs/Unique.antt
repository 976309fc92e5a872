-- The contract of `minimizer_sweep` determines its answer and every list that it was lent: two calls on the same lists end alike. Each field of the promise is an equation
-- with a definition of the input. Assumes nothing.
use mathlib.Core.Path.{◌≡◌, ap}
use mathlib.Core.List.{List}
use Prim.Native.Nat.{ℕ}
use Rattle.base.specs.Answers.{SweepAnswer}
use Rattle.rules.specs.Sweep.{Sweep}
use Rattle.rules.specs.Calls.{SweepLent, MinimizerPromise}
use Rattle.rules.proofs.Unique.{minimizer_unique}
use Rattle.minimizer_sweep.specs.Given.{lent_of}

pub minimizer_call_unique : (s : Sweep) (before : SweepLent) {r r₂ : SweepAnswer} {hs cs is ws ss hs₂ cs₂ is₂ ws₂ ss₂ : List ℕ}
    → MinimizerPromise s r before (lent_of hs cs is ws ss) → MinimizerPromise s r₂ before (lent_of hs₂ cs₂ is₂ ws₂ ss₂)
    → (r ≡ r₂) × (hs ≡ hs₂) × (cs ≡ cs₂) × (is ≡ is₂) × (ws ≡ ws₂) × (ss ≡ ss₂)
minimizer_call_unique s before {r} {r₂} p q =
    let u = minimizer_unique s r r₂ before _ _ p q in
    (u.0, ap (λ (b : SweepLent). b.hashes) u.1, ap (λ (b : SweepLent). b.counts) u.1, ap (λ (b : SweepLent). b.coords) u.1, ap (λ (b : SweepLent). b.words) u.1, ap (λ (b : SweepLent). b.summary) u.1)
