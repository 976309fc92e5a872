-- What holds of each interval of a list, and of each number told of them. All by recursion on the list.
-- Assumes nothing.
use Prim.Native.Nat.{ℕ}
use native.Mathlib.Omega.{arith}
use mathlib.Core.Path.{◌≡◌}
use mathlib.Core.Logic.{⊎_elim}
use mathlib.Core.Bool.{Bool, true, false}
use mathlib.Core.List.{List, [], ◌∷◌, map}
use lib.ListN.{length}
use Rattle.base.specs.Pick.{pick}
use Rattle.base.specs.Lists.{All}
use Rattle.rules.specs.Lists.{count, filter}
use Rattle.rules.specs.Interval.{Interval}
use Rattle.rules.proofs.Score.{cases, count_most}

-- P holds of each interval
abbrev pub Each : (Interval → Type 0) → List Interval → Type 0
Each P [] = Unit {0}
Each P (i ∷ is) = P i × Each P is

pub each_map : (P Q : Interval → Type 0) → ((i : Interval) → P i → Q i) → (is : List Interval) → Each P is → Each Q is
each_map P Q f [] a = tt
each_map P Q f (i ∷ is) a = (f i a.0, each_map P Q f is a.1)

pub each_both : (P Q : Interval → Type 0) (is : List Interval) → Each P is → Each Q is → Each (λ i. P i × Q i) is
each_both P Q [] a b = tt
each_both P Q (i ∷ is) a b = ((a.0, b.0), each_both P Q is a.1 b.1)

-- of a number told of each

pub each_all : (P : ℕ → Type 0) (key : Interval → ℕ) (is : List Interval) → All P (map key is) → Each (λ i. P (key i)) is
each_all P key [] a = tt
each_all P key (i ∷ is) a = (a.0, each_all P key is a.1)

pub all_each : (P : ℕ → Type 0) (key : Interval → ℕ) (is : List Interval) → Each (λ i. P (key i)) is → All P (map key is)
all_each P key [] a = tt
all_each P key (i ∷ is) a = (a.0, all_each P key is a.1)

-- of those that pass a test: what held of each still does, and that they pass

pub each_filter : (P : Interval → Type 0) (t : Interval → Bool) (is : List Interval) → Each P is → Each P (filter t is)
unfolding filter pick
each_filter P t [] a = tt
each_filter P t (i ∷ is) a =
    ⊎_elim (λ (e : t i ≡ true). rw e (a.0, each_filter P t is a.1)) (λ (e : t i ≡ false). rw e (each_filter P t is a.1)) (cases (t i))

pub each_passes : (t : Interval → Bool) (is : List Interval) → Each (λ i. t i ≡ true) (filter t is)
unfolding filter pick
each_passes t [] = tt
each_passes t (i ∷ is) = ⊎_elim (λ (e : t i ≡ true). rw e (e, each_passes t is)) (λ (e : t i ≡ false). rw e (each_passes t is)) (cases (t i))

-- where as many pass as there are, each passes
pub each_count : (t : Interval → Bool) (is : List Interval) → count t is ≡ length is → Each (λ i. t i ≡ true) is
unfolding count pick
each_count t [] e = tt
each_count t (i ∷ is) e =
    ⊎_elim (λ (f : t i ≡ true). (f, each_count t is (omega (arith, rw f at e)))) (λ (f : t i ≡ false). absurd (omega (arith, rw f at e, count_most t is))) (cases (t i))
