-- The contract of `interval_finder` determines its answer and every list that it was lent: two calls on the same lists end alike. Each field of the promise is
-- an equation with a definition of the input. Assumes nothing.
use mathlib.Core.Path.{◌≡◌, ap}
use mathlib.Core.List.{List}
use Prim.Native.Nat.{ℕ}
use Rattle.base.specs.Answers.{FinderAnswer}
use Rattle.rules.specs.Finder.{Finder}
use Rattle.rules.specs.Calls.{FinderLent, IntervalFinderPromise}
use Rattle.rules.proofs.Unique.{interval_finder_unique}
use Rattle.candidate_window.specs.Given.{lent_of}

pub interval_finder_call_unique : (f : Finder) (before : FinderLent) (closes : List ℕ) {r r₂ : FinderAnswer} {os ks cs ss es os₂ ks₂ cs₂ ss₂ es₂ : List ℕ}
    → IntervalFinderPromise f r before (lent_of os cs ss es) closes ks → IntervalFinderPromise f r₂ before (lent_of os₂ cs₂ ss₂ es₂) closes ks₂
    → (r ≡ r₂) × (os ≡ os₂) × (ks ≡ ks₂) × (cs ≡ cs₂) × (ss ≡ ss₂) × (es ≡ es₂)
interval_finder_call_unique f before closes {r} {r₂} p q =
    let u = interval_finder_unique f r r₂ before _ _ closes _ _ p q in
    (u.0, ap (λ (b : FinderLent). b.keys) u.1, u.2, ap (λ (b : FinderLent). b.contigs) u.1, ap (λ (b : FinderLent). b.starts) u.1, ap (λ (b : FinderLent). b.ends) u.1)
