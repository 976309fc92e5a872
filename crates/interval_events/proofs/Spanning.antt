-- What a step does to the counts of the rules, and that the shared count is the score of the span: for the mapper holds the union's k-th smallest, whatever
-- the counts are. Assumes nothing.
use mathlib.Core.Path.{◌≡◌, refl, sym, ap, ◌∙◌, subst}
use mathlib.Core.Logic.{⊎_elim, ◌≢◌}
use mathlib.Core.Bool.{Bool}
use mathlib.Core.List.{List, [], ◌∷◌, ◌++◌}
use Prim.Native.Nat.{ℕ, zero, suc, ◌+◌, ◌-◌, ◌/◌, ◌≤◌, ◌<◌}
use native.Mathlib.Omega.{arith}
use lib.Dec.{eqb}
use lib.ListN.{length, get_or, set, take, drop, get_or-eq_default, length-set, length-map}
use native.Mathlib.Numerals.{add-one}
use lib.Seq.{get_or-set_same, get_or-set_other, drop-cons, take-suc}
use borrow.Author.Tests.{eq-eqb, ne_eqb}
use Rattle.base.specs.Pick.{pick}
use Rattle.base.specs.Lists.{All}
use Rattle.std.proofs.lemmas.Bool.{cases_lt, cases_eq}
use Rattle.rules.specs.Limits.{item_limit}
use Rattle.rules.specs.Lists.{member}
use Rattle.rules.specs.Score.{score}
use Rattle.rules.specs.Script.{stepped, active}
use Rattle.rules.specs.Moves.{marks}
use Rattle.rules.specs.Ranks.{either, both, mark, has, size, PivotAt}
use Rattle.base.specs.declared.Best.{Best}
use Rattle.rules.specs.Sweep.{Sweep, Scored, base, better, best_from, best}
use Rattle.rules.specs.Interval.{coords_of, event_at, event_kind, event_coord, span, spans_from}
use Rattle.rules.proofs.Slide.{score_is}
use Rattle.rules.proofs.IntervalSpans.{strict_coords}
use Rattle.rules.proofs.IntervalRounds.{query_coords, spans_end, spans_here, spans_next}
use Rattle.base.specs.declared.Slide.{Slide}
use Rattle.slide_mapper.specs.declared.lists.MapperLists.{MapperLists}
use Rattle.slide_mapper.specs.State.{flags_of, counts_of, slide_of}
use Rattle.slide_mapper.specs.Lent.{AtPivot, Entered, Left}
use Rattle.slide_mapper.proofs.State.{counts_at, counts_length, counts_set, flags_length, ready_inserted, ready_deleted}
use Rattle.slide_mapper.proofs.Lent.{ready_in, inserted_in, deleted_in}
use Rattle.sweep.proofs.Active.{inserted_flags}
use Rattle.interval_events.specs.Spans.{Asks, Stepped, end_before, raised, Empty, Start}

-- ---- a step

module _ {m : MapperLists} {at : Slide} (k : AtPivot m at) {i : ℕ} (l : i < length m.counts.now) {n : MapperLists} {r : Slide} where
  pub step_insert : (kind : ℕ) → kind ≡ 1 → Entered m at i n r → Stepped kind i m n r
  unfolding stepped pick
  step_insert kind e s = record {
    pivot = record { slid = (ready_inserted (ready_in k) l (inserted_in s)).slid };
    flags = inserted_flags (inserted_in s);
    counts =
        let cs = m.counts.now in
        let h : (get_or cs i 0 + 2) / 2 ≡ get_or (counts_of cs) i 0 + 1 = omega (arith, counts_at cs i) in
        ap counts_of s.counts ∙ counts_set cs i (get_or cs i 0 + 2) ∙ rw (eq-eqb kind 1 e) (ap (set (counts_of cs) i) h);
  }

  pub step_delete : (kind : ℕ) → (kind ≡ 1 → ⊥) → Left m at i n r → Stepped kind i m n r
  unfolding stepped pick
  step_delete kind e s = record {
    pivot = record { slid = (ready_deleted (ready_in k) l (deleted_in s)).slid };
    flags = s.flags;
    counts = rw (ne_eqb kind 1 e) s.counts;
  }

-- as many counts, where the query is as it was
pub same_length : (cs cs' : List ℕ) → flags_of cs' ≡ flags_of cs → length cs' ≡ length cs
same_length cs cs' e = sym (flags_length cs') ∙ ap length e ∙ flags_length cs

-- no count rises by more than one
pub stepped_most : (kind i : ℕ) (counts : List ℕ) (limit : ℕ) → ((j : ℕ) → get_or counts j 0 ≤ limit) → (j : ℕ) → get_or (stepped kind i counts) j 0 ≤ limit + 1
unfolding stepped pick
stepped_most kind i counts limit few j =
    let v = pick (eqb kind 1) (get_or counts i 0 + 1) (get_or counts i 0 - 1) in
    let most : v ≤ limit + 1 = ⊎_elim (λ (e : kind ≡ 1). rw (eq-eqb kind 1 e) (omega (arith, few i))) (λ (e : kind ≢ 1). rw (ne_eqb kind 1 e) (omega (arith, few i))) (cases_eq kind 1) in
    ⊎_elim (λ (e : j ≡ i).
    ⊎_elim (λ (l : i < length counts). rw e (omega (arith, most, get_or-set_same counts i v 0 l)))
    (λ (l : length counts ≤ i). let past : get_or (set counts i v) i 0 ≡ 0 = get_or-eq_default (set counts i v) 0 (omega (arith, length-set counts i v)) in rw (e, past) (omega arith)) (cases_lt i (length counts)))
    (λ (e : j ≢ i). omega (arith, get_or-set_other counts i j v 0 e, few j)) (cases_eq j i)

-- ---- the score

length-marks : (s : Sweep) → length (marks s.query (coords_of s)) ≡ length (coords_of s)
unfolding marks
length-marks s = length-map (coords_of s) (λ (c : ℕ). member c s.query)

pub score_now : {m : MapperLists} {at : Slide} → AtPivot m at → (s : Sweep) (to : ℕ) → Asks s (flags_of m.counts.now) to → score s.query (active (coords_of s) (counts_of m.counts.now)) ≡ at.shared
unfolding slide_of
score_now {m} {at} k s to a =
    let cs = m.counts.now in
    let same : length (counts_of cs) ≡ length (coords_of s) = counts_length cs ∙ sym (flags_length cs) ∙ ap length (sym a.flags) ∙ length-marks s in
    score_is s.query (coords_of s) (counts_of cs) a.order (strict_coords s) (query_coords s) same at.pivot.0 at.shared
    (subst (λ (ms : List Bool). PivotAt (either (mark ms) (has (counts_of cs))) (both (mark ms) (has (counts_of cs))) (size ms) at.pivot.0 at.shared) (sym a.flags) k.slid.at)

-- ---- the spans

-- the spans of these keys past the first, whose end the first key tells
unfoldable pub rest_of : Sweep → List ℕ → List ℕ → List Scored
rest_of s counts [] = []
rest_of s counts (k ∷ ks) = spans_from s (event_at k) counts (k ∷ ks)

-- a span is open until a key at another position comes
abbrev pub Leaves : ℕ → List ℕ → Type 0
Leaves p [] = Unit {0}
Leaves p (k ∷ ks) = event_at k ≢ p

pub spans_open : (s : Sweep) (p : ℕ) (counts ks : List ℕ) → Leaves p ks → spans_from s p counts ks ≡ span s counts p (end_before s.range.end ks) ∷ rest_of s counts ks
unfolding end_before rest_of
spans_open s p counts [] l = spans_end s p counts
spans_open s p counts (k ∷ ks) l = spans_next s p counts k ks l

pub drop_past : {A : Type 0} (xs : List A) (i : ℕ) → length xs ≤ i → drop i xs ≡ []
drop_past [] zero l = refl
drop_past [] (suc i) l = refl
drop_past (x ∷ xs) zero l = absurd (omega arith)
drop_past (x ∷ xs) (suc i) l = drop_past xs i (omega arith)

-- ---- the best of what is scored so far and of the spans to come

module _ (ks : List ℕ) (i : ℕ) where
  keys_at : i < length ks → drop i ks ≡ get_or ks i 0 ∷ drop (i + 1) ks
  keys_at l = rw (add-one, drop-cons ks i 0)

  keys_end : length ks ≤ i → drop i ks ≡ []
  keys_end l = drop_past ks i l

  -- the keys from i on lie elsewhere
  pub leaves_other : (p : ℕ) → i < length ks → (event_at (get_or ks i 0) ≡ p → ⊥) → Leaves p (drop i ks)
  leaves_other p l n = rw (keys_at l) n

  pub leaves_end : (p : ℕ) → length ks ≤ i → Leaves p (drop i ks)
  leaves_end p l = rw (keys_end l) tt

  module _ (s : Sweep) (counts : List ℕ) where
    pub rest_opens : i < length ks → rest_of s counts (drop i ks) ≡ spans_from s (event_at (get_or ks i 0)) counts (drop i ks)
    unfolding rest_of
    rest_opens l = rw (keys_at l)

    pub rest_ends : length ks ≤ i → rest_of s counts (drop i ks) ≡ []
    unfolding rest_of
    rest_ends l = rw (keys_end l)

    -- one more key at this position
    pub one_more : (p : ℕ) → i < length ks → event_at (get_or ks i 0) ≡ p → spans_from s p counts (drop i ks) ≡ spans_from s p (stepped (event_kind (get_or ks i 0)) (event_coord (get_or ks i 0)) counts) (drop (i + 1) ks)
    one_more p l e = rw (keys_at l) (spans_here s p counts (get_or ks i 0) (drop (i + 1) ks) e)

  pub span_end_at : (to : ℕ) → i < length ks → event_at (get_or ks i 0) - 1 ≡ end_before to (drop i ks)
  unfolding end_before
  span_end_at to l = rw (keys_at l)

  pub span_end_past : (to : ℕ) → length ks ≤ i → to ≡ end_before to (drop i ks)
  unfolding end_before
  span_end_past to l = rw (keys_end l)

-- the first span
pub first_scored : {m : MapperLists} {at : Slide} {from : ℕ} {ks : List ℕ} (to e : ℕ) → Start ks from m at → e ≡ end_before to (drop 0 ks) → (s : Sweep) → Asks s (flags_of m.counts.now) to
    → best (spans_from s from (counts_of m.counts.now) ks) ≡ best_from (record { shared = at.shared; first = base from; last = base e }) (rest_of s (counts_of m.counts.now) ks)
unfolding best span
first_scored {m} {at} {from} {ks} to e k q s a =
    ap best (spans_open s from (counts_of m.counts.now) ks (leaves ks k.places)) ∙
    rw (score_now k.pivot s to a, a.end, ← q)
  where
    leaves : (ls : List ℕ) → All (λ x. from < event_at x) ls → Leaves from ls
    leaves [] h = tt
    leaves (l ∷ ls) h = λ z. omega (arith, h.0, z)

-- and each after it
pub next_scored : {m : MapperLists} {at : Slide} (p to e : ℕ) (ls : List ℕ) (b r : Best) → AtPivot m at → r ≡ better b (record { score = at.shared; first = p; last = e }) → e ≡ end_before to ls → Leaves p ls → (s : Sweep) → Asks s (flags_of m.counts.now) to
    → best_from b (spans_from s p (counts_of m.counts.now) ls) ≡ best_from r (rest_of s (counts_of m.counts.now) ls)
unfolding best_from span
next_scored {m} {at} p to e ls b r k f q l s a =
    ap (best_from b) (spans_open s p (counts_of m.counts.now) ls l) ∙
    rw (score_now k s to a, a.end, ← q, f)

-- ---- numbers become active, one by one

raised_more : (is : List ℕ) (i : ℕ) (counts : List ℕ) → raised (is ++ (i ∷ [])) counts ≡ stepped 1 i (raised is counts)
unfolding raised
raised_more [] i counts = refl
raised_more (j ∷ is) i counts = raised_more is i (stepped 1 j counts)

pub record Filling (ns : List ℕ) (old new : MapperLists) (at : Slide) (i : ℕ) : Type 0 where
  pub pivot : AtPivot new at
  pub flags : flags_of new.counts.now ≡ flags_of old.counts.now
  pub counts : counts_of new.counts.now ≡ raised (take i ns) (counts_of old.counts.now)
  pub few : (j : ℕ) → get_or (counts_of new.counts.now) j 0 ≤ i

pub filling_start : {ns : List ℕ} {m : MapperLists} {at : Slide} → Empty ns m at → Filling ns m m at 0
unfolding raised
filling_start k = record { pivot = k.pivot; flags = refl; counts = refl; few = λ j. omega (arith, k.none j) }

module _ {ns : List ℕ} {old m : MapperLists} {at : Slide} {i : ℕ} (k : Filling ns old m at i) where
  pub filling_room : (j : ℕ) → i ≤ item_limit → get_or m.counts.now j 0 + 2 < 1048576
  filling_room j l = omega (arith, k.few j, counts_at m.counts.now j)

  pub filling_more : {n : MapperLists} {r : Slide} → i < length ns → Stepped 1 (get_or ns i 0) m n r → Filling ns old n r (i + 1)
  filling_more l s = record {
    pivot = s.pivot;
    flags = s.flags ∙ k.flags;
    counts = s.counts ∙ ap (stepped 1 (get_or ns i 0)) k.counts ∙ sym (ap (λ (is : List ℕ). raised is (counts_of old.counts.now)) (rw (add-one, take-suc ns i 0)) ∙ raised_more (take i ns) (get_or ns i 0) (counts_of old.counts.now));
    few = λ j. subst (λ (xs : List ℕ). get_or xs j 0 ≤ i + 1) (sym s.counts) (stepped_most 1 (get_or ns i 0) (counts_of m.counts.now) i k.few j);
  }

-- ---- the state while the events are applied

pub record Applying (n : ℕ) (old new : MapperLists) (at : Slide) (i : ℕ) : Type 0 where
  pub pivot : AtPivot new at
  pub flags : flags_of new.counts.now ≡ flags_of old.counts.now
  pub few : (j : ℕ) → get_or (counts_of new.counts.now) j 0 ≤ item_limit + i
  pub upto : i ≤ n

module _ {n : ℕ} {old m : MapperLists} {at : Slide} {i : ℕ} (k : Applying n old m at i) where
  pub applying_after : {first : MapperLists} → flags_of old.counts.now ≡ flags_of first.counts.now → Applying n first m at i
  applying_after e = record { pivot = k.pivot; flags = k.flags ∙ e; few = k.few; upto = k.upto }

  pub applying_more : {o : MapperLists} {r : Slide} (kind c : ℕ) → i < n → Stepped kind c m o r → Applying n old o r (i + 1)
  applying_more kind c l s = record {
    pivot = s.pivot;
    flags = s.flags ∙ k.flags;
    few = λ j. omega (arith, subst (λ (xs : List ℕ). get_or xs j 0 ≤ item_limit + i + 1) (sym s.counts) (stepped_most kind c (counts_of m.counts.now) (item_limit + i) k.few j));
    upto = omega arith;
  }
