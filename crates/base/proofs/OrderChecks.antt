-- `order_of` is the first place at which the order breaks, for any test of two neighbours; at `ltb` there is none exactly where the list ascends strictly, at
-- `leb` exactly where it never descends. A loop that passes the list once finds it: what is left gives the answer of the whole. Assumes nothing.
use Prim.Native.Nat.{ℕ, zero, suc, ◌+◌, ◌-◌, ◌<◌, ◌≤◌}
use mathlib.Core.Path.{◌≡◌, refl, sym, ap, ◌∙◌, subst}
use mathlib.Core.Logic.{⊎_elim}
use mathlib.Core.List.{List, [], ◌∷◌, map}
use mathlib.Core.Bool.{Bool, true, false}
use native.Mathlib.Nat.{not-suc-le-zero}
use native.Mathlib.Numerals.{add-one}
use native.Mathlib.Omega.{arith}
use lib.Dec.{ltb, leb}
use lib.ListN.{length, get_or, drop, drop_of_length-le, length-map}
use Rattle.std.proofs.lemmas.List.{get_or-map}
use lib.Seq.{drop-cons}
use borrow.Author.Tests.{ltb-true, leb-true, lt-ltb, le-leb}
use Rattle.base.specs.Pick.{pick}
use Rattle.base.specs.Lists.{Asc, StrictAsc}
use Rattle.base.specs.OrderChecks.{order_from, order_of, FirstWrong}
use Rattle.std.proofs.lemmas.Bool.{cases_lt}
use Rattle.base.proofs.Lists.{asc_steps, strict_steps, asc_at, strict_at}

-- How many of xs, after p, pass: the answer is that many past i.
record Passed (ok : ℕ → ℕ → Bool) (i p : ℕ) (xs : List ℕ) : Type 0 where
  d : ℕ
  is : order_from ok i p xs ≡ i + d
  within : d ≤ length xs
  before : (k : ℕ) → k < d → ok (get_or (p ∷ xs) k 0) (get_or xs k 0) ≡ true
  wrong : d < length xs → ok (get_or (p ∷ xs) d 0) (get_or xs d 0) ≡ false

module _ (ok : ℕ → ℕ → Bool) where
  passed_more : (p x : ℕ) (xs : List ℕ) (d : ℕ) → ok p x ≡ true → ((k : ℕ) → k < d → ok (get_or (x ∷ xs) k 0) (get_or xs k 0) ≡ true)
      → (k : ℕ) → k < suc d → ok (get_or (p ∷ x ∷ xs) k 0) (get_or (x ∷ xs) k 0) ≡ true
  passed_more p x xs d e before zero l = e
  passed_more p x xs d e before (suc k) l = before k (omega arith)

  passed : (i p : ℕ) (xs : List ℕ) → Passed ok i p xs
  unfolding order_from pick
  passed i p [] = record { d = 0; is = omega arith; within = omega arith; before = λ k l. absurd (not-suc-le-zero l); wrong = λ l. absurd (not-suc-le-zero l) }
  passed i p (x ∷ xs) = go (ok p x) refl (passed (i + 1) x xs)
    where
      go : (t : Bool) → ok p x ≡ t → Passed ok (i + 1) x xs → Passed ok i p (x ∷ xs)
      go true e r = record {
        d = suc r.d;
        is = rw e (r.is ∙ omega arith);
        within = omega (arith, r.within);
        before = passed_more p x xs r.d e r.before;
        wrong = λ l. r.wrong (omega arith);
      }
      go false e r = record { d = 0; is = rw e (omega arith); within = omega arith; before = λ k l. absurd (not-suc-le-zero l); wrong = λ l. e }

-- The index is the first wrong one, and no other is.
module _ (ok : ℕ → ℕ → Bool) where
  pub order_first : (xs : List ℕ) → FirstWrong ok xs (order_of ok xs)
  unfolding order_of
  order_first [] = record { within = omega arith; not_first = λ l. l; before = λ k l. absurd (omega arith); wrong = λ k e l. absurd (not-suc-le-zero l) }
  order_first (x ∷ xs) =
      let r = passed ok 1 x xs in
      record {
        within = omega (arith, r.is, r.within);
        not_first = λ l. omega (arith, r.is);
        before = λ k l. rw (add-one k) (r.before k (omega (arith, r.is)));
        wrong = λ k e l.
            let d : r.d ≡ k = omega (arith, r.is) in
            rw (add-one k, ← d) (r.wrong (omega (arith, r.is)));
      }

  module _ (xs : List ℕ) where
    -- the later of two would have passed over a wrong one
    not_before : (r s : ℕ) → FirstWrong ok xs r → FirstWrong ok xs s → s ≤ r
    not_before r s a b = ⊎_elim (λ (l : r < s). absurd (differ l)) (λ (l : s ≤ r). l) (cases_lt r s)
      where
        differ : r < s → ⊥
        differ l =
            let in_list : r < length xs = omega (arith, b.within) in
            let late : 0 < r = a.not_first (omega arith) in
            let step : r ≡ (r - 1) + 1 = omega arith in
            let good = b.before (r - 1) (omega arith) in
            let bad = a.wrong (r - 1) step in_list in
            let z : ◌≡◌ {A = ℕ} 0 1 = cc in
            omega arith

    pub order_unique : (r : ℕ) → FirstWrong ok xs r → r ≡ order_of ok xs
    order_unique r a = omega (arith, not_before r (order_of ok xs) a (order_first xs), not_before (order_of ok xs) r (order_first xs) a)

    pub order_le : order_of ok xs ≤ length xs
    order_le = (order_first xs).within

    -- every two neighbours are ok exactly where the index is the length
    pub order_all : length xs ≤ order_of ok xs → (k : ℕ) → k + 1 < length xs → ok (get_or xs k 0) (get_or xs (k + 1) 0) ≡ true
    order_all h k l = (order_first xs).before k (omega arith)

    pub all_order : ((k : ℕ) → k + 1 < length xs → ok (get_or xs k 0) (get_or xs (k + 1) 0) ≡ true) → order_of ok xs ≡ length xs
    all_order h =
        sym (order_unique (length xs) (record { within = omega arith; not_first = λ l. l; before = h; wrong = λ k e l. absurd (omega arith) }))

-- The two orders of the calls.
module _ (xs : List ℕ) where
  pub order_strict : length xs ≤ order_of ltb xs → StrictAsc xs
  order_strict h = strict_steps xs (λ i l. ltb-true _ _ (order_all ltb xs h i l))

  pub strict_order : StrictAsc xs → order_of ltb xs ≡ length xs
  strict_order a = all_order ltb xs (λ k l. lt-ltb _ _ (strict_at xs a k (k + 1) (omega arith) l))

  pub order_asc : length xs ≤ order_of leb xs → Asc xs
  order_asc h = asc_steps xs (λ i l. leb-true _ _ (order_all leb xs h i l))

  pub asc_order : Asc xs → order_of leb xs ≡ length xs
  asc_order a = all_order leb xs (λ k l. le-leb _ _ (asc_at xs a k (k + 1) (omega arith) l))

-- A loop over the list, before it looks at i, with p before it: what is left gives the answer.
pub record Checking (ok : ℕ → ℕ → Bool) (xs : List ℕ) (n p i : ℕ) : Type 0 where
  pub all : n ≡ length xs
  pub upto : i ≤ n
  pub left : order_of ok xs ≡ order_from ok i p (drop i xs)

pub checking_none : (ok : ℕ → ℕ → Bool) (xs : List ℕ) → length xs ≡ 0 → 0 ≡ order_of ok xs
unfolding order_of
checking_none ok [] h = refl
checking_none ok (x ∷ xs) h = absurd (omega arith)

pub checking_start : (ok : ℕ → ℕ → Bool) (xs : List ℕ) → (length xs ≡ 0 → ⊥) → Checking ok xs (length xs) (get_or xs 0 0) 1
unfolding order_of
checking_start ok [] h = absurd (h refl)
checking_start ok (x ∷ xs) h = record { all = refl; upto = omega arith; left = refl }

module _ {ok : ℕ → ℕ → Bool} {xs : List ℕ} {n p i : ℕ} (c : Checking ok xs n p i) where
  pub checking_step : i < n → ok p (get_or xs i 0) ≡ true → Checking ok xs n (get_or xs i 0) (i + 1)
  unfolding order_from pick
  checking_step l e =
      let h : i < length xs = omega arith in
      record { all = c.all; upto = omega arith; left = c.left ∙ rw (drop-cons xs i 0, e, add-one) }

  pub checking_stop : i < n → ok p (get_or xs i 0) ≡ false → i ≡ order_of ok xs
  unfolding order_from pick
  checking_stop l e =
      let h : i < length xs = omega arith in
      sym (c.left ∙ rw (drop-cons xs i 0, e))

  -- the same place, named otherwise
  pub checking_at : (j : ℕ) → i ≡ j → Checking ok xs n p j
  checking_at j e = subst (λ (k : ℕ). Checking ok xs n p k) e c

  pub checking_end : n ≤ i → n ≡ order_of ok xs
  unfolding order_from
  checking_end l =
      let h : length xs ≤ i = omega arith in
      let all : order_of ok xs ≡ i = c.left ∙ rw (drop_of_length-le xs h) in
      omega (arith, all, c.upto)

-- The same where the numbers are those of a list of keys, of which x stands at i.
module _ {A : Type 0} (f : A → ℕ) (keys : List A) {xs : List ℕ} (each : map f keys ≡ xs) where
  module _ {ok : ℕ → ℕ → Bool} {n p i : ℕ} (c : Checking ok xs n p i) (l : i < n) {x : A} (is : x ≡ get_or keys i x) {v : ℕ} (w : v ≡ f x) where
    key_at : v ≡ get_or xs i 0
    key_at =
        let h : i < length keys = omega (arith, c.all, length-map keys f, ap length each) in
        w ∙ ap f is ∙ sym (get_or-map f keys i x 0 h) ∙ ap (λ (l : List ℕ). get_or l i 0) each

    pub key_step : ok p v ≡ true → Checking ok xs n v (i + 1)
    key_step e = subst (λ (y : ℕ). Checking ok xs n y (i + 1)) (sym key_at) (checking_step c l (ap (ok p) (sym key_at) ∙ e))

    pub key_stop : ok p v ≡ false → i ≡ order_of ok xs
    key_stop e = checking_stop c l (ap (ok p) (sym key_at) ∙ e)

  -- before the second of them
  pub key_start : (ok : ℕ → ℕ → Bool) {x : A} → x ≡ get_or keys 0 x → {v : ℕ} → v ≡ f x → (length keys ≡ 0 → ⊥) → Checking ok xs (length keys) v 1
  key_start ok {x} is {v} w h =
      let many : length keys ≡ length xs = sym (length-map keys f) ∙ ap length each in
      let first : v ≡ get_or xs 0 0 = w ∙ ap f is ∙ sym (get_or-map f keys 0 x 0 (omega (arith, h))) ∙ ap (λ (l : List ℕ). get_or l 0 0) each in
      subst (λ (y : ℕ). Checking ok xs (length keys) y 1) (sym first) (subst (λ (n : ℕ). Checking ok xs n (get_or xs 0 0) 1) (sym many) (checking_start ok xs (λ e. h (many ∙ e))))
