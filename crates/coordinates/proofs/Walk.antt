-- The walk over sorted keys: each hash that differs from the one before it has the next number. What is written is the coordinates' numbers if the hashes
-- ascend through all keys; the walk has seen that once it is through. Assumes nothing.
use mathlib.Core.Path.{◌≡◌, sym, ap, subst, ◌∙◌}
use mathlib.Core.Logic.{⊎_elim, ◌≢◌}
use mathlib.Core.Bool.{Bool, true, false}
use mathlib.Core.List.{List, ◌++◌, map}
use Prim.Native.Nat.{ℕ, ◌+◌, ◌-◌, ◌≤◌, ◌<◌}
use native.Mathlib.Nat.{not-suc-le-zero, eq-or-lt_of_le, add-zero}
use native.Mathlib.Omega.{arith}
use lib.Dec.{eqb, ltb}
use lib.ListN.{length, get_or, set, length-append, length-map, length-set}
use lib.Seq.{get_or-set_same, get_or-set_other, ext_get_or}
use borrow.Author.Tests.{eq-eqb, ne_eqb, ltb-true}
use Rattle.base.specs.Pick.{pick}
use Rattle.base.specs.Lists.{times}
use Rattle.base.proofs.Lists.{times_find, map_at}
use Rattle.std.proofs.lemmas.Bool.{cases_lt, cases_eq}
use Rattle.rules.specs.Lists.{member}
use Rattle.rules.specs.Score.{union, number_of}
use Rattle.rules.proofs.Score.{member-ascending, member-times, get_or-member, strict_union}
use Rattle.coordinates.specs.Coordinates.{numbers, Numbered}
use Rattle.coordinates.specs.Packed.{place_of, hash_of, Places}
use Rattle.coordinates.proofs.Ranks.{number_least, number_next, number_largest}

-- the hashes ascend through the first n keys
abbrev pub Rising : List ℕ → List ℕ → List ℕ → ℕ → Type 0
Rising query hashes keys n = (p q : ℕ) → p ≤ q → q < n → hash_of query hashes keys p ≤ hash_of query hashes keys q

pub record Walk (query hashes keys coords : List ℕ) (prev c j : ℕ) : Type 0 where
  pub long : length coords ≡ length keys
  pub upto : j ≤ length keys
  pub small : c ≤ j
  pub last : prev ≡ hash_of query hashes keys (j - 1)
  pub rising : Rising query hashes keys j
  pub number : Rising query hashes keys (length keys) → c ≡ number_of (union query hashes) prev
  pub written : Rising query hashes keys (length keys) → (t : ℕ) → t < j → get_or coords (place_of (get_or keys t 0)) 0 ≡ number_of (union query hashes) (hash_of query hashes keys t)

-- a number goes on by one at most
pub step_most : (same : Bool) → pick {A = ℕ} same 0 1 ≤ 1
unfolding pick
step_most true = omega arith
step_most false = omega arith

module _ (query hashes keys : List ℕ) (p : Places query hashes keys) where
  -- the coordinates are the hashes of the keys

  coord_of : (t : ℕ) → t < length keys → member (hash_of query hashes keys t) (union query hashes) ≡ true
  unfolding hash_of union
  coord_of t l =
      member-ascending (get_or (query ++ hashes) (place_of (get_or keys t 0)) 0) (query ++ hashes)
      ∙ get_or-member (query ++ hashes) (place_of (get_or keys t 0)) (omega (arith, p.placed.fits t l, length-append query hashes))

  key_at : (i h : ℕ) → i < length (query ++ hashes) → get_or (query ++ hashes) i 0 ≡ h → (t : ℕ) × (t < length keys) × (hash_of query hashes keys t ≡ h)
  unfolding hash_of
  key_at i h l e =
      let t = p.placed.all i (omega (arith, length-append query hashes)) in
      (t.0, t.1, ap (λ (n : ℕ). get_or (query ++ hashes) n 0) t.2 ∙ e)

  key_of : (h : ℕ) → member h (union query hashes) ≡ true → (t : ℕ) × (t < length keys) × (hash_of query hashes keys t ≡ h)
  unfolding union
  key_of h m =
      let here : ltb 0 (times h (query ++ hashes)) ≡ true = sym (member-times h (query ++ hashes)) ∙ sym (member-ascending h (query ++ hashes)) ∙ m in
      let f = times_find h (query ++ hashes) (ltb-true 0 (times h (query ++ hashes)) here) in
      key_at f.0 h f.1 f.2

  -- the first hash is the least

  pub walk_start : (coords : List ℕ) → length coords ≡ length keys → 0 < length keys → (prev : ℕ) → prev ≡ hash_of query hashes keys 0 → Walk query hashes keys coords prev 0 0
  walk_start coords e some prev f = record {
    long = e;
    upto = omega arith;
    small = omega arith;
    last = f;
    rising = λ a b l m. absurd (not-suc-le-zero m);
    number = λ up.
        sym (number_least (union query hashes) (strict_union query hashes) prev
        (λ h m. let k = key_of h m in omega (arith, k.2, up 0 k.0 (omega arith) k.1)));
    written = λ up t m. absurd (not-suc-le-zero m);
  }

  module _ {coords : List ℕ} {prev c j : ℕ} (w : Walk query hashes keys coords prev c j) (l : j < length keys) where
    rising_step : prev ≤ hash_of query hashes keys j → Rising query hashes keys (j + 1)
    rising_step le a b m n =
        ⊎_elim (λ (e : b ≡ j).
        rw e
        (⊎_elim (λ (f : a ≡ j). rw f (omega arith)) (λ (f : a < j). let q = w.rising a (j - 1) (omega arith) (omega arith) in omega (arith, w.last)) (eq-or-lt_of_le (omega arith))))
        (λ (f : b < j). w.rising a b m f) (eq-or-lt_of_le (omega arith))

    -- before the first hash stands itself
    not_first : (x : ℕ) → x ≡ hash_of query hashes keys j → x ≢ prev → 0 < j
    not_first x e n =
        ⊎_elim (λ (m : 0 < j). m)
        (λ (m : j ≤ 0). let z : j ≡ j - 1 = omega arith in absurd (n (e ∙ ap (hash_of query hashes keys) z ∙ sym w.last))) (cases_lt 0 j)

    -- the hash before it is a coordinate, and none lies between
    number_other : (x : ℕ) → x ≡ hash_of query hashes keys j → Rising query hashes keys (length keys) → x ≢ prev → number_of (union query hashes) x ≡ number_of (union query hashes) prev + 1
    number_other x e up n =
        let some : 0 < j = not_first x e n in
        let k = w.last in
        let le = up (j - 1) j (omega arith) l in
        number_next (union query hashes) (strict_union query hashes) prev x (subst (λ (h : ℕ). member h (union query hashes) ≡ true) (sym k) (coord_of (j - 1) (omega arith)))
        (omega arith)
        (λ h m b.
        let t = key_of h m in
        ⊎_elim (λ (a : t.0 < j). absurd (omega (arith, up t.0 (j - 1) (omega arith) (omega arith), t.2))) (λ (a : j ≤ t.0). omega (arith, up j t.0 a t.1, t.2)) (cases_lt t.0 j))

    number_step : (x : ℕ) → x ≡ hash_of query hashes keys j → Rising query hashes keys (length keys) → c + pick (eqb x prev) 0 1 ≡ number_of (union query hashes) x
    unfolding pick
    number_step x e up =
        ⊎_elim (λ (s : x ≡ prev). rw (eq-eqb x prev s, add-zero c) (w.number up ∙ ap (number_of (union query hashes)) (sym s)))
        (λ (s : x ≢ prev). rw (ne_eqb x prev s) (omega (arith, w.number up, number_other x e up s))) (cases_eq x prev)

    pub walk_step : (x : ℕ) → x ≡ hash_of query hashes keys j → prev ≤ x → (next : ℕ) → next ≡ c + pick (eqb x prev) 0 1
        → Walk query hashes keys (set coords (place_of (get_or keys j 0)) next) x next (j + 1)
    unfolding hash_of
    walk_step x e le next f =
        let here = place_of (get_or keys j 0) in
        let back : j ≡ j + 1 - 1 = omega arith in
        record {
          long = length-set coords here next ∙ w.long;
          upto = omega arith;
          small = omega (arith, w.small, step_most (eqb x prev));
          last = e ∙ ap (hash_of query hashes keys) back;
          rising = rising_step (omega (arith, e));
          number = λ up. f ∙ number_step x e up;
          written = λ up t m.
              ⊎_elim
              (λ (s : place_of (get_or keys t 0) ≡ here).
              ap (λ (n : ℕ). get_or (set coords here next) n 0) s ∙ get_or-set_same coords here next 0 (omega (arith, p.placed.fits j l, p.many, w.long)) ∙ f ∙ number_step x e up
              ∙ ap (number_of (union query hashes)) (e ∙ ap (λ (n : ℕ). get_or (query ++ hashes) n 0) (sym s)))
              (λ (s : place_of (get_or keys t 0) ≢ here).
              get_or-set_other coords here (place_of (get_or keys t 0)) next 0 s
              ∙ w.written up t (earlier t m s)) (cases_eq (place_of (get_or keys t 0)) here);
        }
      where
        earlier : (t : ℕ) → t < j + 1 → place_of (get_or keys t 0) ≢ place_of (get_or keys j 0) → t < j
        earlier t m s = ⊎_elim (λ (q : t ≡ j). absurd (s (ap (λ (n : ℕ). place_of (get_or keys n 0)) q))) (λ (q : t < j). q) (eq-or-lt_of_le (omega arith))

  -- through: the hashes have ascended, the last is the largest, and every place was written
  module _ {coords : List ℕ} {prev c j : ℕ} (w : Walk query hashes keys coords prev c j) (some : 0 < length keys) (through : length keys ≤ j) where
    all_rising : Rising query hashes keys (length keys)
    all_rising a b m n = w.rising a b m (omega arith)

    walk_many : c + 1 ≡ length (union query hashes)
    walk_many =
        let u = w.upto in
        let k = w.last in
        ap (λ (n : ℕ). n + 1) (w.number all_rising)
        ∙ number_largest (union query hashes) (strict_union query hashes) prev
        (subst (λ (h : ℕ). member h (union query hashes) ≡ true) (sym k) (coord_of (j - 1) (omega arith)))
        (λ h m. let t = key_of h m in omega (arith, all_rising t.0 (j - 1) (omega (arith, t.1)) (omega arith), t.2))

    walk_numbers : coords ≡ numbers query hashes
    unfolding numbers hash_of
    walk_numbers =
        let xs = query ++ hashes in
        let f = number_of (union query hashes) in
        let e : length xs ≡ length query + length hashes = length-append query hashes in
        let n : length (map f xs) ≡ length xs = length-map xs f in
        ext_get_or 0 coords (map f xs) (omega (arith, w.long, p.many))
        (λ i l.
        let m : i < length xs = omega (arith, w.long, p.many) in
        let t = p.placed.all i (omega arith) in
        ap (λ (k : ℕ). get_or coords k 0) (sym t.2) ∙ w.written all_rising t.0 (omega (arith, t.1)) ∙ ap (λ (k : ℕ). f (get_or xs k 0)) t.2 ∙ sym (map_at f xs i 0 0 m))

    pub walk_end : Numbered query hashes coords (c + 1)
    walk_end = record { many = walk_many; are = walk_numbers }
