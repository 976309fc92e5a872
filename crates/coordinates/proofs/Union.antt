-- Sorted and without repeats, query and items are the rules' union: both ascend strictly and have the same members. Assumes nothing.
use mathlib.Core.Path.{◌≡◌, refl, sym, ap, subst, ◌∙◌}
use mathlib.Core.List.{List, ◌++◌, map}
use Prim.Native.Nat.{ℕ, zero, suc, ◌+◌, ◌≤◌, ◌<◌, min}
use native.Mathlib.Omega.{arith}
use lib.Dec.{ltb}
use borrow.Author.Tests.{lt-ltb}
use lib.ListN.{length, get_or, take}
use lib.Seq.{take_at}
use Rattle.base.specs.Lists.{Asc, times}
use Rattle.base.specs.Sort.{sort_of}
use Rattle.base.proofs.Sort.{asc_sort, times_sort}
use Rattle.base.proofs.Lists.{strict_asc, map_at}
use Rattle.rules.specs.Lists.{member}
use Rattle.rules.specs.Score.{union, ascending, number_of}
use Rattle.rules.proofs.Score.{member-times, strict_same, strict_ascending, member-ascending, strict_union, length_union, number_most}
use Rattle.keys.specs.Lists.{below, dedup_of, Fronted}
use Rattle.keys.proofs.Repeats.{strict_dedup, times_dedup}
use Rattle.keys.proofs.Numbers.{below_number}
use Rattle.coordinates.specs.Coordinates.{numbers, Numbered}

-- a number stands in a list once at least where it stands in the list without repeats
once : (n : ℕ) → ltb 0 (min 1 n) ≡ ltb 0 n
once zero = refl
once (suc n) = let e : min 1 (suc n) ≡ 1 = omega arith in rw e (sym (lt-ltb 0 (suc n) (omega arith)))

member_distinct : (h : ℕ) (xs : List ℕ) → member h (dedup_of (sort_of xs)) ≡ member h xs
member_distinct h xs =
    member-times h (dedup_of (sort_of xs)) ∙ ap (ltb 0) (times_dedup h (sort_of xs) (asc_sort xs) ∙ ap (min 1) (times_sort h xs)) ∙ once (times h xs) ∙ sym (member-times h xs)

pub union_distinct : (query hashes : List ℕ) → dedup_of (sort_of (query ++ hashes)) ≡ union query hashes
unfolding union
union_distinct query hashes =
    strict_same (dedup_of (sort_of (query ++ hashes))) (ascending (query ++ hashes)) (strict_dedup (sort_of (query ++ hashes)) (asc_sort (query ++ hashes))) (strict_ascending (query ++ hashes))
    (λ h. member_distinct h (query ++ hashes) ∙ sym (member-ascending h (query ++ hashes)))

-- what is counted for a hash is its number

pub counted : (cs xs : List ℕ) (y h i : ℕ) → y ≡ below h cs → h ≡ get_or xs i 0 → i < length xs → y ≡ get_or (map (number_of cs) xs) i 0
counted cs xs y h i e f l = e ∙ below_number h cs ∙ ap (number_of cs) f ∙ sym (map_at (number_of cs) xs i 0 0 l)

pub counted_most : (cs : List ℕ) (y h : ℕ) → y ≡ below h cs → y ≤ length cs
counted_most cs y h e = omega (arith, below_number h cs, number_most cs h)

-- the keys gathered, sorted and left without repeats: the union stands at the front
module _ (query hashes : List ℕ) {gathered kept : List ℕ} {n : ℕ} (all : gathered ≡ query ++ hashes) (f : Fronted (dedup_of (sort_of gathered)) (sort_of gathered) kept n) where
  distinct_is : dedup_of (sort_of gathered) ≡ union query hashes
  distinct_is = ap (λ (xs : List ℕ). dedup_of (sort_of xs)) all ∙ union_distinct query hashes

  pub front_many : n ≡ length (union query hashes)
  front_many = f.many ∙ ap length distinct_is

  pub front_few : n ≤ length query + length hashes
  front_few = omega (arith, front_many, length_union query hashes)

  pub front_is : take n kept ≡ union query hashes
  front_is = ap (take n) f.is ∙ take_at (dedup_of (sort_of gathered)) _ n (sym f.many) ∙ distinct_is

  pub front_asc : Asc (take n kept)
  front_asc = subst Asc (sym front_is) (strict_asc (union query hashes) (strict_union query hashes))

  pub front_numbered : (coords : List ℕ) → coords ≡ map (number_of (take n kept)) (query ++ hashes) → Numbered query hashes coords n
  unfolding numbers
  front_numbered coords e = record { many = front_many; are = e ∙ ap (λ (cs : List ℕ). map (number_of cs) (query ++ hashes)) front_is }
