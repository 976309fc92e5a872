-- The contract of `minimizer_finder` determines its answer and every list that it was lent: two calls on the same lists end alike. Each field of the
-- promise is an equation with a definition of the input. Assumes nothing.
use mathlib.Core.Path.{◌≡◌, ap}
use mathlib.Core.List.{List}
use Prim.Native.Nat.{ℕ}
use Rattle.base.specs.Answers.{FinderAnswer}
use Rattle.rules.specs.Finder.{Finder}
use Rattle.rules.specs.Calls.{FinderLent, MinimizerFinderPromise}
use Rattle.rules.proofs.Unique.{minimizer_finder_unique}
use Rattle.candidate_window.specs.Given.{lent_of}

pub minimizer_finder_call_unique : (f : Finder) (before : FinderLent) {r r₂ : FinderAnswer} {ks cs ss es ks₂ cs₂ ss₂ es₂ : List ℕ}
    → MinimizerFinderPromise f r before (lent_of ks cs ss es) → MinimizerFinderPromise f r₂ before (lent_of ks₂ cs₂ ss₂ es₂)
    → (r ≡ r₂) × (ks ≡ ks₂) × (cs ≡ cs₂) × (ss ≡ ss₂) × (es ≡ es₂)
minimizer_finder_call_unique f before {r} {r₂} p q =
    let u = minimizer_finder_unique f r r₂ before _ _ p q in
    (u.0, ap (λ (b : FinderLent). b.keys) u.1, ap (λ (b : FinderLent). b.contigs) u.1, ap (λ (b : FinderLent). b.starts) u.1, ap (λ (b : FinderLent). b.ends) u.1)
