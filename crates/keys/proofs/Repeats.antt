-- Leaving out equal neighbours in place: the k kept so far, and what the keys not yet read will give, make the answer, and from k on the buffer is as it was.
-- A key is only ever written where the answers go on, and k never passes the reader. Assumes nothing.
use mathlib.Core.Path.{◌≡◌, refl, sym, ap, ◌∙◌}
use mathlib.Core.Logic.{◌⊎◌, inl, inr, ⊎_elim, ◌≢◌}
use mathlib.Core.Bool.{Bool, true, false}
use mathlib.Core.List.{List, [], ◌∷◌, ◌++◌, append-nil}
use Prim.Native.Nat.{ℕ, suc, ◌+◌, ◌-◌, ◌≤◌, ◌<◌, min}
use native.Mathlib.Nat.{add-zero}
use native.Mathlib.Numerals.{add-one}
use native.Mathlib.Omega.{arith}
use lib.Dec.{eqb}
use lib.ListN.{length, take, drop, get_or, set, length-set, take-append-drop, drop_of_length-le}
use lib.Seq.{set-get_or, get_or-drop, drop-cons, drop-set-lt, take-suc-set, append_snoc, length-take-le}
use borrow.Author.Tests.{eq-eqb, ne_eqb}
use Rattle.base.specs.Pick.{pick}
use Rattle.base.specs.Lists.{All, Asc, StrictAsc, hit, times}
use Rattle.base.specs.Sort.{sort_of}
use Rattle.base.proofs.Lists.{all_map, strict_asc, hit_same, hit_other, times_above}
use Rattle.std.proofs.lemmas.Bool.{cases_eq}
use Rattle.base.proofs.Sort.{asc_sort, asc_unique, times_sort}
use Rattle.keys.specs.Lists.{after, dedup_of, Fronted}
use Rattle.keys.proofs.Insertion.{tail_of}

after_same : (last x : ℕ) (xs : List ℕ) → x ≡ last → after last (x ∷ xs) ≡ after last xs
unfolding after pick
after_same last x xs e = rw (eq-eqb x last e)

after_other : (last x : ℕ) (xs : List ℕ) → (x ≡ last → ⊥) → after last (x ∷ xs) ≡ x ∷ after x xs
unfolding after pick
after_other last x xs e = rw (ne_eqb x last e)

-- k goes on by one at most
pub other_small : (same : Bool) → pick {A = ℕ} same 0 1 < 2
unfolding pick
other_small true = omega arith
other_small false = omega arith

pub record Kept (a₀ a : List ℕ) (last k i : ℕ) : Type 0 where
  pub long : length a ≡ length a₀
  pub k_le : k ≤ i
  pub i_le : i ≤ length a₀
  pub front : take k a ++ after last (drop i a₀) ≡ dedup_of a₀
  pub rest : drop k a ≡ drop k a₀

pub kept_none : (a : List ℕ) → length a ≡ 0 → Fronted (dedup_of a) a a 0
unfolding dedup_of
kept_none [] e = record { many = refl; is = refl }
kept_none (x ∷ xs) e = absurd (omega arith)

pub kept_start : (a₀ : List ℕ) → 0 < length a₀ → Kept a₀ a₀ (get_or a₀ 0 0) 1 1
unfolding dedup_of
kept_start [] p = absurd (omega arith)
kept_start (x ∷ xs) p = record { long = refl; k_le = omega arith; i_le = p; front = refl; rest = refl }

module _ (a₀ a : List ℕ) (last k i : ℕ) (v : Kept a₀ a last k i) where
  -- what is read is as it was
  read_is : get_or a i 0 ≡ get_or a₀ i 0
  read_is =
      let q = v.k_le in
      let e : k + (i - k) ≡ i = omega arith in
      rw e at (sym (get_or-drop k a (i - k) 0) ∙ ap (λ (l : List ℕ). get_or l (i - k) 0) v.rest ∙ get_or-drop k a₀ (i - k) 0)

  next : i < length a₀ → drop i a₀ ≡ get_or a i 0 ∷ drop (suc i) a₀
  next l = rw read_is (drop-cons a₀ i 0 l)

  kept_same : i < length a₀ → get_or a i 0 ≡ last → Kept a₀ a (get_or a i 0) k (i + 1)
  kept_same l e = record {
    long = v.long;
    k_le = let q = v.k_le in omega arith;
    i_le = omega arith;
    front =
        ap (λ (t : List ℕ). take k a ++ t)
        (ap (λ (t : ℕ). after t (drop (i + 1) a₀)) e ∙ (rw add-one (sym (after_same last (get_or a i 0) (drop (suc i) a₀) e) ∙ ap (after last) (sym (next l)))))
        ∙ v.front;
    rest = v.rest;
  }

  kept_other : i < length a₀ → (get_or a i 0 ≡ last → ⊥) → Kept a₀ (set a k (get_or a i 0)) (get_or a i 0) (k + 1) (i + 1)
  kept_other l ne =
      let q = v.k_le in
      let m = v.long in
      record {
        long = length-set a k (get_or a i 0) ∙ v.long;
        k_le = omega arith;
        i_le = omega arith;
        front =
            rw (add-one k, add-one i, take-suc-set a k (get_or a i 0) (omega arith))
            (append_snoc (take k a) (get_or a i 0) (after (get_or a i 0) (drop (suc i) a₀))
            ∙ ap (λ (t : List ℕ). take k a ++ t) (sym (after_other last (get_or a i 0) (drop (suc i) a₀) ne) ∙ ap (after last) (sym (next l)))
            ∙ v.front);
        rest = drop-set-lt (k + 1) a k (get_or a i 0) (omega arith) ∙ tail_of a a₀ k 1 v.rest;
      }

  -- the key that is read is written at k, or what stood there is, and k goes on, or not
  pub kept_more : i < length a₀ → Kept a₀ (set a k (pick (eqb (get_or a i 0) last) (get_or a k 0) (get_or a i 0))) (get_or a i 0) (k + pick (eqb (get_or a i 0) last) 0 1) (i + 1)
  unfolding pick
  kept_more l =
      ⊎_elim (λ e. rw (eq-eqb (get_or a i 0) last e) (rw (set-get_or a k 0, add-zero k) (kept_same l e)))
      (λ ne. rw (ne_eqb (get_or a i 0) last ne) (kept_other l ne))
      (cases_eq (get_or a i 0) last)

  pub kept_end : length a₀ ≤ i → Fronted (dedup_of a₀) a₀ a k
  unfolding after
  kept_end l =
      let q = v.k_le in
      let r = v.i_le in
      let m = v.long in
      let none : drop i a₀ ≡ [] = drop_of_length-le a₀ l in
      let all : take k a ≡ dedup_of a₀ = sym (append-nil (take k a)) ∙ (rw none at v.front) in
      let many : k ≡ length (dedup_of a₀) = sym (length-take-le k a (omega arith)) ∙ ap length all in
      record { many = many; is = sym (take-append-drop k a) ∙ (rw (all, v.rest, ← many)) }

-- What stays of an ascending list: each of its numbers once, in strict order. So `dedup_of (sort_of xs)` is the one such list.

strict_after : (last : ℕ) (xs : List ℕ) → All (λ y. last ≤ y) xs → Asc xs → All (λ y. last < y) (after last xs) × StrictAsc (after last xs)
unfolding after
strict_after last [] a s = (tt, tt)
strict_after last (x ∷ xs) a s =
    ⊎_elim (λ (e : x ≡ last). rw (after_same last x xs e) (strict_after last xs a.1 s.1))
    (λ (ne : x ≢ last).
    let r = strict_after x xs s.0 s.1 in
    let l : last < x = omega arith in
    rw (after_other last x xs ne) ((l, all_map (λ y. x < y) (λ y. last < y) (λ y h. omega arith) (after x xs) r.0), r))
    (cases_eq x last)

pub strict_dedup : (xs : List ℕ) → Asc xs → StrictAsc (dedup_of xs)
unfolding dedup_of
strict_dedup [] s = tt
strict_dedup (x ∷ xs) s = strict_after x xs s.0 s.1

hit_either : (v x : ℕ) → ((v ≡ x) × (hit v x ≡ 1)) ⊎ ((v ≢ x) × (hit v x ≡ 0))
hit_either v x = ⊎_elim (λ (e : v ≡ x). inl (e, ap (hit v) (sym e) ∙ hit_same v)) (λ (ne : v ≢ x). inr (ne, hit_other v x ne)) (cases_eq v x)

-- one step of the count: x equals the last, or it and all later ones are above it

module _ (v last x : ℕ) (xs : List ℕ) where
  times_same : x ≡ last → hit v last + times v (after last xs) ≡ min 1 (hit v last + times v xs) → hit v last + times v (after last (x ∷ xs)) ≡ min 1 (hit v last + (hit v x + times v xs))
  times_same e t =
      let q : hit v x ≡ hit v last = ap (hit v) e in
      rw (after_same last x xs e) (⊎_elim (λ (h : (v ≡ last) × (hit v last ≡ 1)). omega (arith, h.1)) (λ (h : (v ≢ last) × (hit v last ≡ 0)). omega (arith, h.1)) (hit_either v last))

  times_other : last < x → All (λ y. x ≤ y) xs → hit v x + times v (after x xs) ≡ min 1 (hit v x + times v xs) → hit v last + times v (after last (x ∷ xs)) ≡ min 1 (hit v last + (hit v x + times v xs))
  unfolding times
  times_other l a t =
      rw (after_other last x xs (λ e. omega arith))
      (⊎_elim (λ (h : (v ≡ last) × (hit v last ≡ 1)).
      let o : hit v x ≡ 0 = hit_other v x (omega (arith, h.0)) in
      let z : times v xs ≡ 0 = times_above v xs (all_map (λ y. x ≤ y) (λ y. v < y) (λ y m. omega (arith, h.0)) xs a) in
      omega (arith, h.1))
      (λ (h : (v ≢ last) × (hit v last ≡ 0)). omega (arith, h.1))
      (hit_either v last))

times-after : (v last : ℕ) (xs : List ℕ) → All (λ y. last ≤ y) xs → Asc xs → hit v last + times v (after last xs) ≡ min 1 (hit v last + times v xs)
unfolding after times
times-after v last [] a s = ⊎_elim (λ (h : (v ≡ last) × (hit v last ≡ 1)). omega (arith, h.1)) (λ (h : (v ≢ last) × (hit v last ≡ 0)). omega (arith, h.1)) (hit_either v last)
times-after v last (x ∷ xs) a s =
    ⊎_elim (λ (e : x ≡ last). times_same v last x xs e (times-after v last xs a.1 s.1))
    (λ (ne : x ≢ last). times_other v last x xs (omega arith) s.0 (times-after v x xs s.0 s.1))
    (cases_eq x last)

pub times_dedup : (v : ℕ) (xs : List ℕ) → Asc xs → times v (dedup_of xs) ≡ min 1 (times v xs)
unfolding dedup_of times
times_dedup v [] s = refl
times_dedup v (x ∷ xs) s = times-after v x xs s.0 s.1

pub distinct_unique : (xs ys : List ℕ) → StrictAsc ys → ((v : ℕ) → times v ys ≡ min 1 (times v xs)) → ys ≡ dedup_of (sort_of xs)
distinct_unique xs ys s e =
    asc_unique ys (dedup_of (sort_of xs)) (strict_asc ys s) (strict_asc (dedup_of (sort_of xs)) (strict_dedup (sort_of xs) (asc_sort xs)))
    (λ v. e v ∙ ap (min 1) (sym (times_sort v xs)) ∙ sym (times_dedup v (sort_of xs) (asc_sort xs)))
