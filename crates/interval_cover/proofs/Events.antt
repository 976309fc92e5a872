-- The rules' events that are left, where i starts and j ends are passed: the next is the lesser of the next start and the next end, an end where they are at
-- one key. Assumes nothing.
use mathlib.Core.Path.{◌≡◌, sym, ap, ◌∙◌}
use mathlib.Core.List.{List, [], ◌∷◌, ◌++◌, map}
use Prim.Native.Nat.{ℕ, ◌+◌, ◌*◌, ◌≤◌, ◌<◌}
use native.Mathlib.Numerals.{add-one}
use native.Mathlib.Omega.{arith}
use lib.ListN.{length, get_or, drop, length-drop, drop_of_length-le}
use lib.Seq.{drop-cons, get_or-drop}
use Rattle.base.specs.Lists.{All, Asc}
use Rattle.base.specs.Sort.{insert, sort_of}
use Rattle.base.proofs.Lists.{all_index, all_append, asc_at}
use Rattle.base.proofs.Sort.{all_sort, asc_sort, insert_front, sort_mid}
use Rattle.interval_cover.specs.Cover.{events_of, events_left}

abbrev open_event : ℕ → ℕ
open_event k = k * 2 + 1

abbrev close_event : ℕ → ℕ
close_event k = k * 2

all_of : (P Q : ℕ → Type 0) (f : ℕ → ℕ) → ((x : ℕ) → P x → Q (f x)) → (xs : List ℕ) → All P xs → All Q (map f xs)
all_of P Q f g [] a = tt
all_of P Q f g (x ∷ xs) a = (g x a.0, all_of P Q f g xs a.1)

-- what is left of a sorted list is at or above its first
all_from : (xs : List ℕ) (x i : ℕ) → Asc xs → (i < length xs → x ≤ get_or xs i 0) → All (λ y. x ≤ y) (drop i xs)
all_from xs x i asc h =
    all_index (λ y. x ≤ y) (drop i xs)
    (λ k l.
    let fits : i + k < length xs = omega (arith, length-drop i xs) in
    rw (get_or-drop i xs k 0) (omega (arith, h (omega arith), asc_at xs asc i (i + k) (omega arith) fits)))

-- an element that is at or below all others comes first
first_of : (xs : List ℕ) (x : ℕ) → All (λ y. x ≤ y) xs → insert x (sort_of xs) ≡ x ∷ sort_of xs
first_of xs x a = insert_front x (sort_of xs) (all_sort (λ y. x ≤ y) xs a) (asc_sort xs)

module _ (opens closes : List ℕ) (asc_opens : Asc opens) (asc_closes : Asc closes) (i j : ℕ) where
  pub left_close : j < length closes → (i < length opens → get_or closes j 0 ≤ get_or opens i 0) → events_left opens closes i j ≡ get_or closes j 0 * 2 ∷ events_left opens closes i (j + 1)
  unfolding events_of
  left_close l h =
      let e = get_or closes j 0 in
      let starts = map open_event (drop i opens) in
      let ends = map close_event (drop (j + 1) closes) in
      let cons : drop j closes ≡ e ∷ drop (j + 1) closes = drop-cons closes j 0 l ∙ ap (λ (k : ℕ). e ∷ drop k closes) (sym (add-one j)) in
      let low : All (λ y. e * 2 ≤ y) (starts ++ ends) =
      all_append (λ y. e * 2 ≤ y) starts ends (all_of (λ y. e ≤ y) (λ y. e * 2 ≤ y) open_event (λ x m. omega arith) (drop i opens) (all_from opens e i asc_opens h))
      (all_of (λ y. e ≤ y) (λ y. e * 2 ≤ y) close_event (λ x m. omega arith) (drop (j + 1) closes)
      (all_from closes e (j + 1) asc_closes (λ m. asc_at closes asc_closes j (j + 1) (omega arith) m))) in
      ap (λ (x : List ℕ). sort_of (starts ++ map close_event x)) cons ∙ sort_mid starts (e * 2) ends ∙ first_of (starts ++ ends) (e * 2) low

  pub left_open : i < length opens → (j < length closes → get_or opens i 0 < get_or closes j 0) → events_left opens closes i j ≡ (get_or opens i 0 * 2 + 1) ∷ events_left opens closes (i + 1) j
  unfolding events_of sort_of
  left_open l h =
      let s = get_or opens i 0 in
      let starts = map open_event (drop (i + 1) opens) in
      let ends = map close_event (drop j closes) in
      let cons : drop i opens ≡ s ∷ drop (i + 1) opens = drop-cons opens i 0 l ∙ ap (λ (k : ℕ). s ∷ drop k opens) (sym (add-one i)) in
      let low : All (λ y. s * 2 + 1 ≤ y) (starts ++ ends) =
      all_append (λ y. s * 2 + 1 ≤ y) starts ends
      (all_of (λ y. s ≤ y) (λ y. s * 2 + 1 ≤ y) open_event (λ x m. omega arith) (drop (i + 1) opens)
      (all_from opens s (i + 1) asc_opens (λ m. asc_at opens asc_opens i (i + 1) (omega arith) m)))
      (all_of (λ y. s + 1 ≤ y) (λ y. s * 2 + 1 ≤ y) close_event (λ x m. omega arith) (drop j closes) (all_from closes (s + 1) j asc_closes (λ m. omega (arith, h m)))) in
      ap (λ (x : List ℕ). sort_of (map open_event x ++ ends)) cons ∙ first_of (starts ++ ends) (s * 2 + 1) low

  pub left_none : length opens ≤ i → length closes ≤ j → events_left opens closes i j ≡ []
  unfolding events_of sort_of
  left_none l m = rw (drop_of_length-le opens l, drop_of_length-le closes m)
