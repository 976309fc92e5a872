-- What stands in a buffer that is cleared, or written over, from its front, one store a turn: each store takes the place at the seam, where the part
-- that is done meets the part that is kept. Assumes nothing.
use Prim.Native.Nat.{ℕ, zero, suc, ◌+◌, ◌-◌, ◌<◌, ◌≤◌}
use mathlib.Core.Path.{◌≡◌, refl, sym, ap, ◌∙◌}
use mathlib.Core.List.{List, [], ◌∷◌, ◌++◌, append-nil, map, map-append}
use native.Mathlib.Nat.{not-suc-le-zero, le_of_suc-le-suc}
use native.Mathlib.Numerals.{add-one}
use native.Mathlib.Omega.{arith}
use lib.ListN.{length, set, take, drop, get_or, replicate, length-append, length-drop, length-map, length-replicate, get_or-replicate, take-append-drop, get_or-append}
use lib.Seq.{get_or-append-add, get_or-drop, take_at, drop_at, take-length, drop-length, drop-cons, set-append_seam, append_snoc}
use Rattle.base.specs.Buffers.{zeroed, over}

-- A front of length n over what was there: its places, and those past it.
module _ {A : Type 0} (front entry : List A) (n : ℕ) (is : length front ≡ n) where
  pub front_length : n ≤ length entry → length (front ++ drop n entry) ≡ length entry
  front_length h = omega (arith, length-append front (drop n entry), length-drop n entry)

  pub front_in : (d : A) (i : ℕ) → i < n → get_or (front ++ drop n entry) i d ≡ get_or front i d
  front_in d i h = get_or-append front (drop n entry) d i (omega arith)

  pub front_out : (d : A) (i : ℕ) → n ≤ i → get_or (front ++ drop n entry) i d ≡ get_or entry i d
  front_out d i h =
      let past : length front + (i - n) ≡ i = omega arith in
      let back : n + (i - n) ≡ i = omega arith in
      ap (λ (k : ℕ). get_or (front ++ drop n entry) k d) (sym past) ∙ get_or-append-add front (drop n entry) (i - n) d ∙ get_or-drop n entry (i - n) d
      ∙ ap (λ (k : ℕ). get_or entry k d) back

-- Cleared.

zeros : (n : ℕ) → length (replicate {A = ℕ} n 0) ≡ n
zeros n = length-replicate n 0

module _ (n : ℕ) (entry : List ℕ) where
  pub length-zeroed : n ≤ length entry → length (zeroed n entry) ≡ length entry
  length-zeroed h = front_length (replicate n 0) entry n (zeros n) h

  pub zeroed_in : (i : ℕ) → i < n → get_or (zeroed n entry) i 0 ≡ 0
  zeroed_in i h = front_in (replicate n 0) entry n (zeros n) 0 i h ∙ get_or-replicate n i 0 0 h

  pub zeroed_out : (i : ℕ) → n ≤ i → get_or (zeroed n entry) i 0 ≡ get_or entry i 0
  zeroed_out i h = front_out (replicate n 0) entry n (zeros n) 0 i h

  pub zeroed-take : take n (zeroed n entry) ≡ replicate n 0
  zeroed-take = take_at (replicate n 0) (drop n entry) n (zeros n)

  pub zeroed-drop : drop n (zeroed n entry) ≡ drop n entry
  zeroed-drop = drop_at (replicate n 0) (drop n entry) n (zeros n)

  -- what was clear stays as it is
  pub zeroed_kept : take n entry ≡ replicate n 0 → zeroed n entry ≡ entry
  zeroed_kept e = ap (λ (l : List ℕ). l ++ drop n entry) (sym e) ∙ take-append-drop n entry

-- Answers over the front.
module _ {A : Type 0} (answers entry : List A) where
  pub length_over : length answers ≤ length entry → length (over answers entry) ≡ length entry
  length_over h = front_length answers entry (length answers) refl h

  pub over_in : (d : A) (i : ℕ) → i < length answers → get_or (over answers entry) i d ≡ get_or answers i d
  over_in d i h = front_in answers entry (length answers) refl d i h

  pub over_out : (d : A) (i : ℕ) → length answers ≤ i → get_or (over answers entry) i d ≡ get_or entry i d
  over_out d i h = front_out answers entry (length answers) refl d i h

  -- one answer more
  pub over_push : (y : A) → length answers < length entry → set (over answers entry) (length answers) y ≡ over (answers ++ (y ∷ [])) entry
  over_push y h =
      let n = length answers in
      let more : length (answers ++ (y ∷ [])) ≡ suc n = omega (arith, length-append answers (y ∷ [])) in
      ap (λ (l : List A). set (answers ++ l) n y) (drop-cons entry n y h) ∙ set-append_seam answers (get_or entry n y) (drop (suc n) entry) y
      ∙ sym (append_snoc answers y (drop (suc n) entry)) ∙ ap (λ (k : ℕ). (answers ++ (y ∷ [])) ++ drop k entry) (sym more)

-- one answer more, where each is told by one thing that is done
pub pushed : {A B : Type 0} (f : A → B) (done : List A) (y : A) (entry now : List B) (j : ℕ) → now ≡ over (map f done) entry → length done ≡ j → j < length now
    → set now j (f y) ≡ over (map f (done ++ (y ∷ []))) entry
pushed {A} {B} f done y entry now j e n l =
    let long : length (map f done) ≡ j = length-map done f ∙ n in
    let room : length now ≡ j + (length entry - j) = ap length e ∙ simp (length-append, length-drop, long) in
    ap (λ (x : List B). set x j (f y)) e ∙ ap (λ (k : ℕ). set (over (map f done) entry) k (f y)) (sym long) ∙
    over_push (map f done) entry (f y) (omega (arith, long)) ∙ ap (λ (x : List B). over x entry) (sym (map-append f done (y ∷ [])))

-- Where the whole list of answers is known, and a loop writes the one at i in turn i: before that turn the buffer is `take i answers ++ drop i entry`.
module _ {A : Type 0} where
  rest_suc : (i : ℕ) (l : List A) (y : A) (r : List A) → drop i l ≡ y ∷ r → drop (suc i) l ≡ r
  rest_suc zero [] y r e = cc
  rest_suc zero (x ∷ l) y r e = cc
  rest_suc (suc i) [] y r e = cc
  rest_suc (suc i) (x ∷ l) y r e = rest_suc i l y r e

  more_suc : (i : ℕ) (l d : List A) (y : A) (r : List A) → i < length d → drop i l ≡ y ∷ r → set (take i l ++ drop i d) i y ≡ take (suc i) l ++ drop (suc i) d
  more_suc i l [] y r h e = absurd (not-suc-le-zero h)
  more_suc zero [] (x ∷ d) y r h e = absurd (let z : ◌≡◌ {A = ℕ} 0 1 = cc in omega arith)
  more_suc zero (w ∷ l) (x ∷ d) y r h e = let q : y ≡ w = cc in rw q
  more_suc (suc i) [] (x ∷ d) y r h e = absurd (let z : ◌≡◌ {A = ℕ} 0 1 = cc in omega arith)
  more_suc (suc i) (w ∷ l) (x ∷ d) y r h e = ap (λ (t : List A). w ∷ t) (more_suc i l d y r (le_of_suc-le-suc h) e)

  module _ (i : ℕ) (answers : List A) where
    -- what follows the answer at i
    pub over_rest : (y : A) (r : List A) → drop i answers ≡ y ∷ r → drop (i + 1) answers ≡ r
    over_rest y r e = rw (add-one i) (rest_suc i answers y r e)

    -- one store more
    pub over_more : (entry : List A) (y : A) (r : List A) → i < length entry → drop i answers ≡ y ∷ r
        → set (take i answers ++ drop i entry) i y ≡ take (i + 1) answers ++ drop (i + 1) entry
    over_more entry y r h e = rw (add-one i) (more_suc i answers entry y r h e)
