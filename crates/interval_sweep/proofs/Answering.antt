-- From what the sweep found to the rules' answer: the early nones in their order, and that a best can be placed: its score is no more than the query's hashes, and its
-- positions lie within the range. Assumes nothing.
use mathlib.Core.Path.{◌≡◌, sym, subst, ◌∙◌}
use mathlib.Core.Logic.{⊎_elim}
use mathlib.Core.Bool.{true, false, ◌&&◌, and-eq-true_iff}
use mathlib.Core.List.{List, [], ◌∷◌, ◌++◌, map}
use Prim.Native.Nat.{ℕ, ◌+◌, ◌≤◌, ◌<◌, ◌^◌}
use native.Mathlib.Omega.{arith}
use lib.Dec.{ltb, leb, eqb}
use lib.ListN.{length}
use borrow.Author.Tests.{lt-ltb, le-ltb, eq-eqb, ne_eqb, leb-true}
use Rattle.base.specs.Pick.{pick}
use Rattle.base.specs.Lists.{All}
use Rattle.base.specs.declared.Best.{Best}
use Rattle.base.proofs.Lists.{all_append}
use Rattle.base.proofs.Sort.{all_sort}
use Rattle.rules.specs.Limits.{query_limit, item_limit}
use Rattle.rules.specs.Lists.{member, filter}
use Rattle.rules.specs.Sweep.{Sweep, Scored, base, better, best_from, best}
use Rattle.rules.specs.Interval.{Interval, taken, coords_of, event_key, event_at, event_kind, event_coord, events, beginning, span, spans_from, spans}
use Rattle.rules.specs.Script.{stepped}
use Rattle.rules.specs.Place.{settled_in, interval_early, interval_stats, interval_from, interval_answer}
use Rattle.rules.proofs.Score.{cases, number_fits}
use Rattle.rules.proofs.IntervalEach.{Each, each_map}
use Rattle.rules.proofs.IntervalEvents.{at_key, coord_of}
use Rattle.rules.proofs.IntervalSpans.{strict_coords}
use Rattle.rules.proofs.IntervalKeys.{insert_keys, delete_keys, events_keys}
use Rattle.rules.proofs.IntervalRounds.{interval_most}
use Rattle.rules.proofs.Interval.{taken_members, coords_fit}
use Rattle.sweep.specs.Work.{Fits}
use Rattle.interval_work.specs.declared.Swept.{Swept}
use Rattle.interval_work.specs.Work.{Found}
use Rattle.std.specs.Prelude.{Option, Some, None, MatchOption, Float}
use Rattle.base.specs.declared.Range.{Range}
use Rattle.interval_sweep.specs.declared.checked.Checked.{Checked}
use Rattle.interval_sweep.specs.Given.{asked}
use Rattle.interval_sweep.specs.Answer.{none, placed}

-- ---- positions within the range

abbrev Within : ℕ → List Scored → Type 0
Within t [] = Unit {0}
Within t (x ∷ xs) = (x.first ≤ t) × (x.last ≤ t) × Within t xs

better_within : (t : ℕ) (b : Best) (x : Scored) → b.first.0 ≤ t → b.last.0 ≤ t → x.first ≤ t → x.last ≤ t → ((better b x).first.0 ≤ t) × ((better b x).last.0 ≤ t)
unfolding better base pick
better_within t b x f l g m =
    ⊎_elim (λ (e : ltb b.shared x.score ≡ true). rw e (g, m))
    (λ (e : ltb b.shared x.score ≡ false).
    ⊎_elim (λ (q : eqb b.shared x.score ≡ true). rw (e, q) (f, m)) (λ (q : eqb b.shared x.score ≡ false). rw (e, q) (f, l)) (cases (eqb b.shared x.score))) (cases (ltb b.shared x.score))

from_within : (t : ℕ) (b : Best) (xs : List Scored) → b.first.0 ≤ t → b.last.0 ≤ t → Within t xs → ((best_from b xs).first.0 ≤ t) × ((best_from b xs).last.0 ≤ t)
unfolding best_from
from_within t b [] f l w = (f, l)
from_within t b (x ∷ xs) f l w = let h = better_within t b x f l w.0 w.1 in from_within t (better b x) xs h.0 h.1 w.2

best_within : (t : ℕ) (xs : List Scored) → Within t xs → ((best xs).first.0 ≤ t) × ((best xs).last.0 ≤ t)
unfolding best base
best_within t [] w = (omega arith, omega arith)
best_within t (x ∷ xs) w = from_within t (record { shared = x.score; first = base x.first; last = base x.last }) xs w.0 w.1 w.2

spans_within : (s : Sweep) (from : ℕ) (counts ks : List ℕ) → from ≤ s.range.end → All (λ k. event_at k ≤ s.range.end) ks → Within s.range.end (spans_from s from counts ks)
unfolding spans_from span pick
spans_within s from counts [] l a = (l, omega arith, tt)
spans_within s from counts (k ∷ ks) l a =
    let rest = spans_within s (event_at k) (stepped (event_kind k) (event_coord k) counts) ks a.0 a.1 in
    ⊎_elim (λ (e : eqb (event_at k) from ≡ true). rw e rest) (λ (e : eqb (event_at k) from ≡ false). rw e (l, omega (arith, a.0), rest)) (cases (eqb (event_at k) from))

keys_within : (kind from to : ℕ) → kind ≤ 1 → (f g : Interval → ℕ) (is : List Interval) → Each (λ i. g i < 65536) is → All (λ k. event_at k ≤ to) (map (λ (i : Interval). event_key (f i) kind (g i)) (filter (λ i. ltb from (f i) && leb (f i) to) is))
unfolding filter pick
keys_within kind from to two f g [] a = tt
keys_within kind from to two f g (i ∷ is) a =
    let rest = keys_within kind from to two f g is a.1 in
    ⊎_elim (λ (e : (ltb from (f i) && leb (f i) to) ≡ true).
    rw e (omega (arith, at_key (f i) kind (g i) (omega arith) a.0, leb-true (f i) to ((and-eq-true_iff (ltb from (f i)) (leb (f i) to)).0 e).1), rest))
    (λ (e : (ltb from (f i) && leb (f i) to) ≡ false). rw e rest) (cases (ltb from (f i) && leb (f i) to))

module _ (s : Sweep) (small : length (coords_of s) ≤ 65536) (forward : s.range.start ≤ s.range.end) where
  events_within : All (λ k. event_at k ≤ s.range.end) (events s)
  events_within =
      let fits : Each (λ i. coord_of (coords_of s) i < 65536) (taken s) = each_map (λ i. member i.hash (coords_of s) ≡ true) (λ i. coord_of (coords_of s) i < 65536) (λ i n. omega (arith, number_fits (coords_of s) (strict_coords s) i.hash n)) (taken s) (taken_members s) in
      subst (λ (ks : List ℕ). All (λ k. event_at k ≤ s.range.end) ks) (events_keys s)
      (all_sort (λ k. event_at k ≤ s.range.end) (insert_keys s ++ delete_keys s)
      (all_append (λ k. event_at k ≤ s.range.end) (insert_keys s) (delete_keys s) (keys_within 1 s.range.start s.range.end (omega arith) (λ i. i.start) (coord_of (coords_of s)) (taken s) fits) (keys_within 0 s.range.start s.range.end (omega arith) (λ i. i.end) (coord_of (coords_of s)) (taken s) fits)))

  pub spans_in : ((best (spans s)).first.0 ≤ s.range.end) × ((best (spans s)).last.0 ≤ s.range.end)
  unfolding spans
  spans_in = best_within s.range.end (spans_from s s.range.start (beginning s) (events s)) (spans_within s s.range.start (beginning s) (events s) forward events_within)

-- ---- the early nones, in their order

module _ (s : Sweep) where
  pub early_short : s.settings.length < s.settings.kmer → none ≡ interval_answer s
  unfolding interval_answer interval_from interval_early pick
  early_short l = rw (lt-ltb s.settings.length s.settings.kmer l)

  module _ (a : s.settings.kmer ≤ s.settings.length) where
    pub early_empty : length s.query ≡ 0 → none ≡ interval_answer s
    unfolding interval_answer interval_from interval_early pick
    early_empty e = rw (le-ltb s.settings.length s.settings.kmer a, eq-eqb (length s.query) 0 e)

    module _ (b : length s.query ≡ 0 → ⊥) where
      pub early_reversed : s.range.end < s.range.start → none ≡ interval_answer s
      unfolding interval_answer interval_from interval_early pick
      early_reversed l = rw (le-ltb s.settings.length s.settings.kmer a, ne_eqb (length s.query) 0 b, lt-ltb s.range.end s.range.start l)

      module _ (c : s.range.start ≤ s.range.end) where
        pub late : interval_answer s ≡ pick (eqb (length (taken s)) 0) none (settled_in s (interval_stats s) (best (spans s)))
        unfolding interval_answer interval_from interval_early
        late = rw (le-ltb s.settings.length s.settings.kmer a, ne_eqb (length s.query) 0 b, le-ltb s.range.end s.range.start c)

        pub late_fits : (r : Option Swept) → Found s r → 1 ≤ s.settings.length → length s.query ≤ query_limit → length s.hashes ≤ item_limit → length s.query + 1 ≤ length s.identities → length s.identities ≡ length s.uppers → s.range.end < 2 ^ 32
            → MatchOption r (Unit {0}) (λ w. Fits s.settings.length (length s.query) s.identities s.uppers w.best)
        late_fits None f some q h entries same wide = tt
        late_fits (Some r) f some q h entries same wide =
            let in_range = spans_in s (coords_fit s q h) c in
            subst (λ (x : Best). Fits s.settings.length (length s.query) s.identities s.uppers x) (sym f.best_is)
            (record {
              some = some;
              small = omega arith;
              identity = omega (arith, interval_most s);
              upper = omega (arith, interval_most s);
              first = omega (arith, in_range.0);
              last = omega (arith, in_range.1);
            })

-- what was found is placed
module _ (i : Checked) (range : Range) (minimum : Float) where
  abbrev s : Sweep
  s = asked i range minimum

  module _ (a : s.settings.kmer ≤ s.settings.length) (b : length s.query ≡ 0 → ⊥) (c : s.range.start ≤ s.range.end) where
    pub late_placed : (r : Option Swept) → Found s r → placed i range minimum r ≡ interval_answer s
    unfolding settled_in interval_stats pick
    late_placed None e = sym (late s a b c ∙ rw (eq-eqb (length (taken s)) 0 e))
    late_placed (Some r) f =
        let some : length (taken s) ≡ 0 → ⊥ = λ e. omega (arith, f.some) in
        sym (late s a b c ∙ rw (ne_eqb (length (taken s)) 0 some, ← f.items_are, ← f.coords_are, ← f.best_is))
