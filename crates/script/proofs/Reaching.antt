-- A hash's number among ascending coordinates is where the first that is not below it stands. Assumes nothing.
use mathlib.Core.Path.{◌≡◌, ◌∙◌}
use mathlib.Core.Logic.{⊎_elim}
use mir.Val.{bool_byte}
use lib.Dec.{ltb}
use borrow.Author.Tests.{lt-ltb, le-ltb}
use mathlib.Core.List.{List}
use Prim.Native.Nat.{ℕ, ◌+◌, ◌-◌, ◌≤◌, ◌<◌, min}
use native.Mathlib.Omega.{arith}
use lib.ListN.{length, get_or, take, drop}
use lib.Seq.{get_or-drop, get_or-take}
use Rattle.base.specs.Lists.{StrictAsc}
use Rattle.std.proofs.lemmas.Bool.{cases_lt}
use Rattle.rules.specs.Score.{number_of}
use Rattle.rules.proofs.Score.{get_or-member, number_at, number_order, number_up}

module _ (cs : List ℕ) (asc : StrictAsc cs) (h i : ℕ) (l : i < length cs) where
  -- a coordinate below the hash counts
  pub passes : get_or cs i 0 < h → i < number_of cs h
  passes b = omega (arith, number_at cs asc i l, number_order cs asc (get_or cs i 0) h (get_or-member cs i l) b)

  -- at one that is not, no more than those before it do
  pub most : h ≤ get_or cs i 0 → number_of cs h ≤ i
  most a = omega (arith, number_at cs asc i l, number_up cs h (get_or cs i 0) a)

-- of the k from `at` on s are among the first n: of one more, so many more as the next one's answer
pub one_more : (n at k s r : ℕ) → at ≤ n → at + s ≡ min (at + k) n → r ≡ min (n - (at + k)) 1 → at + (s + r) ≡ min (at + (k + 1)) n
one_more n at k s r l e f = omega (arith, l, e, f)

-- of the k coordinates from `at` on s are below the hash: of one more, one more where that is
pub below_more : (cs : List ℕ) → StrictAsc cs → (h at n k s : ℕ) → at + n ≤ length cs → k < n → at + s ≡ min (at + k) (number_of cs h)
    → at + (s + bool_byte (ltb (get_or (take n (drop at cs)) k 0) h)) ≡ min (at + (k + 1)) (number_of cs h)
below_more cs asc h at n k s l m e =
    let x = get_or cs (at + k) 0 in
    let same : get_or (take n (drop at cs)) k 0 ≡ x = get_or-take n (drop at cs) k 0 m ∙ get_or-drop at cs k 0 in
    let in_cs : at + k < length cs = omega (arith, l, m) in
    let next : bool_byte (ltb x h) ≡ min (number_of cs h - (at + k)) 1 =
    ⊎_elim
    (λ (a : x < h). rw (lt-ltb x h a) (omega (arith, passes cs asc h (at + k) in_cs a)))
    (λ (b : h ≤ x). rw (le-ltb x h b) (omega (arith, most cs asc h (at + k) in_cs b))) (cases_lt x h) in
    rw same (one_more (number_of cs h) at k s _ (omega (arith, e)) e next)
