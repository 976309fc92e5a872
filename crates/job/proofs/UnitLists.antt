-- The units of n bytes in a list: one is taken from the front as long as there are n bytes; whole lists of units join. Assumes nothing.
use Prim.Native.Nat.{ℕ, zero, suc, ◌-◌, ◌*◌, ◌/◌, ◌%◌, ◌<◌, ◌≤◌}
use mathlib.Core.Path.{◌≡◌, refl, sym, ap, ◌∙◌}
use mathlib.Core.List.{List, [], ◌∷◌, ◌++◌, map}
use native.Mathlib.Nat.{div-eq_of_lt, div-eq-sub-div, suc-mul, div-add-mod'}
use native.Mathlib.Numerals.{add-one}
use native.Mathlib.Omega.{arith}
use lib.ListN.{length, take, drop, length-append, length-drop}
use lib.Seq.{take-nil, take-append-le, drop-append-le, take-take}
use Rattle.rules.specs.Job.{number, number_at, units_of, units}

-- a part of a part
pub drop-take : {A : Type 0} (m n : ℕ) (l : List A) → m ≤ n → drop m (take n l) ≡ take (n - m) (drop m l)
drop-take zero n l h = ap (λ k. take k l) (let e : n ≡ n - 0 = omega arith in e)
drop-take (suc m) zero l h = absurd (omega arith)
drop-take (suc m) (suc n) [] h = sym (take-nil (suc n - suc m))
drop-take (suc m) (suc n) (x ∷ l) h = drop-take m n l (omega arith) ∙ ap (λ k. take k (drop m l)) (let e : n - m ≡ suc n - suc m = omega arith in e)

module _ (n : ℕ) (some : 0 < n) where
  pub units_none : (bytes : List ℕ) → length bytes < n → units n bytes ≡ []
  unfolding units units_of
  units_none bytes h = ap (λ (c : ℕ). units_of c n bytes) (div-eq_of_lt h)

  pub units-cons : (bytes : List ℕ) → n ≤ length bytes → units n bytes ≡ take n bytes ∷ units n (drop n bytes)
  unfolding units units_of
  units-cons bytes h =
      ap (λ (c : ℕ). units_of c n bytes) (div-eq-sub-div some h ∙ add-one ((length bytes - n) / n)) ∙
      ap (λ (k : ℕ). take n bytes ∷ units_of (k / n) n (drop n bytes)) (sym (length-drop n bytes))

  -- whole units join
  append_by : (q : ℕ) (a b : List ℕ) → length a ≡ q * n → units n (a ++ b) ≡ units n a ++ units n b
  append_by zero [] b e = ap (λ (l : List (List ℕ)). l ++ units n b) (sym (units_none [] (omega arith)))
  append_by zero (x ∷ a) b e = absurd (omega arith)
  append_by (suc q) a b e =
      let long : n ≤ length a = omega (arith, e, suc-mul q n) in
      let left : length (drop n a) ≡ q * n = omega (arith, e, suc-mul q n, length-drop n a) in
      units-cons (a ++ b) (omega (arith, length-append a b)) ∙ ap (λ (l : List ℕ). l ∷ units n (drop n (a ++ b))) (take-append-le n a b long) ∙
      ap (λ (l : List ℕ). take n a ∷ units n l) (drop-append-le n a b long) ∙ ap (λ (l : List (List ℕ)). take n a ∷ l) (append_by q (drop n a) b left) ∙
      ap (λ (l : List (List ℕ)). l ++ units n b) (sym (units-cons a long))

  pub units-append : (a b : List ℕ) → length a % n ≡ 0 → units n (a ++ b) ≡ units n a ++ units n b
  units-append a b e = append_by (length a / n) a b (let d = div-add-mod' (length a) n in omega arith)

  -- the first of some; where there is none, whole units are no byte
  pub units_first : (bytes : List ℕ) (u : List ℕ) (us : List (List ℕ)) → units n bytes ≡ u ∷ us → take n bytes ≡ u
  unfolding units units_of
  units_first bytes u us e = go (length bytes / n) e
    where
      go : (c : ℕ) → units_of c n bytes ≡ u ∷ us → take n bytes ≡ u
      go zero e = absurd (let z : ◌≡◌ {A = ℕ} 0 1 = cc in omega arith)
      go (suc c) e = cc

  pub units_empty : (bytes : List ℕ) → units n bytes ≡ [] → length bytes % n ≡ 0 → bytes ≡ []
  unfolding units units_of
  units_empty bytes e w = go (length bytes / n) refl e
    where
      empty : (l : List ℕ) → length l ≡ 0 → l ≡ []
      empty [] h = refl
      empty (x ∷ l) h = absurd (omega arith)

      go : (c : ℕ) → length bytes / n ≡ c → units_of c n bytes ≡ [] → bytes ≡ []
      go zero q e = empty bytes (let d = div-add-mod' (length bytes) n in let z : length bytes / n * n ≡ 0 * n = ap (λ (k : ℕ). k * n) q in omega arith)
      go (suc c) q e = absurd (let z : ◌≡◌ {A = ℕ} 0 1 = cc in omega arith)

  -- how many
  pub units_count : (bytes : List ℕ) → length (units n bytes) ≡ length bytes / n
  unfolding units units_of
  units_count bytes = go (length bytes / n) bytes
    where
      go : (c : ℕ) (l : List ℕ) → length (units_of c n l) ≡ c
      go zero l = refl
      go (suc c) l = ap suc (go c (drop n l))

-- a unit of eight bytes is its number
pub units_number : (c : ℕ) (bytes : List ℕ) → map number (units_of c 8 bytes) ≡ map (number_at 0 8) (units_of c 8 bytes)
unfolding units_of number_at
units_number zero bytes = refl
units_number (suc c) bytes =
    ap (λ (l : List ℕ). number l ∷ map number (units_of c 8 (drop 8 bytes))) (sym (take-take 8 8 bytes (omega arith))) ∙
    ap (λ (l : List ℕ). number (take 8 (take 8 bytes)) ∷ l) (units_number c (drop 8 bytes))
