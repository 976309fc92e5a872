-- The best of a list is what its words say: the greatest score, the first of the earliest that has it and the last of the latest; and nothing else is.
-- Assumes nothing.
use Prim.Native.Nat.{ℕ, ◌+◌, ◌≤◌, ◌<◌}
use mathlib.Core.Path.{◌≡◌, refl, sym, ap, ◌∙◌}
use mathlib.Core.Logic.{⊎_elim}
use mathlib.Core.Bool.{Bool, true, false}
use mathlib.Core.List.{List, [], ◌∷◌, ◌++◌, append-nil, append_assoc}
use native.Mathlib.Omega.{arith}
use lib.ListN.{length, get_or, length-append, get_or-append}
use lib.Seq.{get_or-append_seam}
use lib.Dec.{ltb, eqb}
use borrow.Author.Tests.{ltb-true, ltb-false, eqb-true, eqb-false}
use Rattle.base.specs.Pick.{pick}
use Rattle.base.specs.declared.Best.{Best}
use Rattle.std.proofs.lemmas.Bool.{cases_lt}
use Rattle.rules.specs.Sweep.{Scored, base, better, best_from, best}
use Rattle.rules.proofs.Sweep.{scored}

-- element i (asked for only where there is one)
abbrev pub at : List Scored → ℕ → Scored
at xs i = get_or xs i (scored 0 0 0)

pub record Earliest (xs : List Scored) (b : Best) (i : ℕ) : Type 0 where
  pub inside : i < length xs
  pub has : (at xs i).score ≡ b.shared
  pub first : b.first ≡ base (at xs i).first
  pub less : (j : ℕ) → j < i → (at xs j).score < b.shared

pub record Latest (xs : List Scored) (b : Best) (i : ℕ) : Type 0 where
  pub inside : i < length xs
  pub has : (at xs i).score ≡ b.shared
  pub last : b.last ≡ base (at xs i).last
  pub less : (j : ℕ) → i < j → j < length xs → (at xs j).score < b.shared

pub record IsBest (xs : List Scored) (b : Best) : Type 0 where
  pub greatest : (i : ℕ) → i < length xs → (at xs i).score ≤ b.shared
  pub earliest : (i : ℕ) × Earliest xs b i
  pub latest : (i : ℕ) × Latest xs b i

-- ---- one more at the end

module _ (xs : List Scored) (x : Scored) where
  more : List Scored
  more = xs ++ x ∷ []

  more-length : length more ≡ length xs + 1
  unfolding more
  more-length = length-append xs (x ∷ [])

  before : (i : ℕ) → i < length xs → at more i ≡ at xs i
  unfolding more
  before i l = get_or-append xs (x ∷ []) (scored 0 0 0) i l

  here : at more (length xs) ≡ x
  unfolding more
  here = get_or-append_seam xs x [] (scored 0 0 0)

  score_before : (i : ℕ) → i < length xs → (at more i).score ≡ (at xs i).score
  score_before i l = ap (λ (z : Scored). z.score) (before i l)

  score_here : (i : ℕ) → length xs ≤ i → i < length more → (at more i).score ≡ x.score
  score_here i h l =
      let e : i ≡ length xs = omega (arith, more-length) in
      rw (e, here)

  module _ (c : Best) where
    keep_greatest : (b : Best) → ((i : ℕ) → i < length xs → (at xs i).score ≤ b.shared) → b.shared ≤ c.shared → x.score ≤ c.shared → (i : ℕ) → i < length more → (at more i).score ≤ c.shared
    keep_greatest b h m n i l =
        ⊎_elim (λ (k : i < length xs). omega (arith, h i k, score_before i k)) (λ (k : length xs ≤ i). omega (arith, score_here i k l)) (cases_lt i (length xs))

    keep_earliest : (b : Best) (i : ℕ) → Earliest xs b i → c.shared ≡ b.shared → c.first ≡ b.first → Earliest more c i
    keep_earliest b i e m n = record {
      inside = omega (arith, e.inside, more-length);
      has = score_before i e.inside ∙ e.has ∙ sym m;
      first = n ∙ e.first ∙ rw (before i e.inside);
      less = λ j l. omega (arith, e.inside, e.less j l, score_before j (omega (arith, e.inside)));
    }

    keep_latest : (b : Best) (i : ℕ) → Latest xs b i → c.shared ≡ b.shared → c.last ≡ b.last → x.score < b.shared → Latest more c i
    keep_latest b i e m n h = record {
      inside = omega (arith, e.inside, more-length);
      has = score_before i e.inside ∙ e.has ∙ sym m;
      last = n ∙ e.last ∙ rw (before i e.inside);
      less = λ j l k. ⊎_elim (λ (d : j < length xs). omega (arith, e.less j l d, score_before j d)) (λ (d : length xs ≤ j). omega (arith, score_here j d k)) (cases_lt j (length xs));
    }

    new_earliest : ((i : ℕ) → i < length xs → (at xs i).score < c.shared) → c.shared ≡ x.score → c.first ≡ base x.first → Earliest more c (length xs)
    new_earliest h m n = record {
      inside = omega (arith, more-length);
      has = rw here (sym m);
      first = rw here n;
      less = λ j l. omega (arith, h j l, score_before j l);
    }

    new_latest : c.shared ≡ x.score → c.last ≡ base x.last → Latest more c (length xs)
    new_latest m n = record {
      inside = omega (arith, more-length);
      has = rw here (sym m);
      last = rw here n;
      less = λ j l k. absurd (omega (arith, more-length));
    }

  step : (b : Best) → IsBest xs b → IsBest more (better b x)
  unfolding better pick
  step b h = go (ltb b.shared x.score) refl (eqb b.shared x.score) refl
    where
      greater : Best
      greater = record { shared = x.score; first = base x.first; last = base x.last }

      equal : Best
      equal = record { shared = b.shared; first = b.first; last = base x.last }

      go : (t : Bool) → ltb b.shared x.score ≡ t → (u : Bool) → eqb b.shared x.score ≡ u → IsBest more (better b x)
      go true e u d =
          let l = ltb-true b.shared x.score e in
          rw e (record {
            greatest = keep_greatest greater b h.greatest (omega arith) (omega arith);
            earliest = (length xs, new_earliest greater (λ i k. omega (arith, h.greatest i k)) refl refl);
            latest = (length xs, new_latest greater refl refl);
          })
      go false e true d =
          let l = eqb-true b.shared x.score d in
          rw (e, d) (record {
            greatest = keep_greatest equal b h.greatest (omega arith) (omega arith);
            earliest = (h.earliest.0, keep_earliest equal b h.earliest.0 h.earliest.1 refl refl);
            latest = (length xs, new_latest equal l refl);
          })
      go false e false d =
          let l = ltb-false b.shared x.score e in
          let n = eqb-false b.shared x.score d in
          rw (e, d) (record {
            greatest = keep_greatest b b h.greatest (omega arith) l;
            earliest = (h.earliest.0, keep_earliest b b h.earliest.0 h.earliest.1 refl refl);
            latest = (h.latest.0, keep_latest b b h.latest.0 h.latest.1 refl refl (omega (arith, n)));
          })

steps : (xs ys : List Scored) (b : Best) → IsBest xs b → IsBest (xs ++ ys) (best_from b ys)
unfolding best_from more
steps xs [] b h = rw append-nil h
steps xs (y ∷ ys) b h = rw append_assoc at (steps (xs ++ y ∷ []) ys (better b y) (step xs y b h))

pub best_is : (x : Scored) (xs : List Scored) → IsBest (x ∷ xs) (best (x ∷ xs))
unfolding best more
best_is x xs = steps (x ∷ []) xs alone (record {
  greatest = keep_greatest [] x alone alone (λ i l. absurd (omega arith)) (omega arith) (omega arith);
  earliest = (0, new_earliest [] x alone (λ i l. absurd (omega arith)) refl refl);
  latest = (0, new_latest [] x alone refl refl);
})
  where
    alone : Best
    alone = record { shared = x.score; first = base x.first; last = base x.last }

-- ---- no other

module _ (xs : List Scored) where
  shared-le : (b c : Best) → IsBest xs b → IsBest xs c → b.shared ≤ c.shared
  shared-le b c h k =
      let i = h.earliest.0 in
      omega (arith, h.earliest.1.has, k.greatest i h.earliest.1.inside)

  module _ (b c : Best) (same : b.shared ≡ c.shared) (i j : ℕ) where
    earliest_le : Earliest xs b i → Earliest xs c j → j ≤ i
    earliest_le h k = ⊎_elim (λ (l : i < j). absurd (omega (arith, h.has, k.less i l))) (λ (l : j ≤ i). l) (cases_lt i j)

    latest_le : Latest xs b i → Latest xs c j → i ≤ j
    latest_le h k = ⊎_elim (λ (l : j < i). absurd (omega (arith, h.has, k.less i l h.inside))) (λ (l : i ≤ j). l) (cases_lt j i)

pub best_unique : (xs : List Scored) (b c : Best) → IsBest xs b → IsBest xs c → b ≡ c
best_unique xs b c h k = λ d. record { shared = same d; first = first d; last = last d }
  where
    same : b.shared ≡ c.shared
    same = omega (arith, shared-le xs b c h k, shared-le xs c b k h)

    first : b.first ≡ c.first
    first =
        let i = h.earliest.0 in
        let j = k.earliest.0 in
        let e : i ≡ j = omega (arith, earliest_le xs b c same i j h.earliest.1 k.earliest.1, earliest_le xs c b (sym same) j i k.earliest.1 h.earliest.1) in
        h.earliest.1.first ∙ ap (λ (n : ℕ). base (at xs n).first) e ∙ sym k.earliest.1.first

    last : b.last ≡ c.last
    last =
        let i = h.latest.0 in
        let j = k.latest.0 in
        let e : i ≡ j = omega (arith, latest_le xs b c same i j h.latest.1 k.latest.1, latest_le xs c b (sym same) j i k.latest.1 h.latest.1) in
        h.latest.1.last ∙ ap (λ (n : ℕ). base (at xs n).last) e ∙ sym k.latest.1.last
