-- From the keys of a part to the sweep over them: the keys lie past range start, their coordinates are in the list, the start keys ascend by position and kind
-- since the starts do; and what the sweep over the merged keys finds is the rules' best. Assumes nothing.
use mathlib.Core.Path.{◌≡◌, refl, sym, ap, ◌∙◌}
use mathlib.Core.Logic.{⊎_elim}
use mathlib.Core.Bool.{Bool, true, false, ◌&&◌, and-eq-true_iff}
use mathlib.Core.List.{List, [], ◌∷◌, ◌++◌}
use Prim.Native.Nat.{ℕ, ◌+◌, ◌-◌, ◌*◌, ◌/◌, ◌≤◌, ◌<◌}
use native.Mathlib.Omega.{arith}
use lib.Dec.{ltb, leb}
use lib.ListN.{length, get_or, take, length-append}
use lib.Seq.{length-take-le}
use borrow.Author.Tests.{ltb-true}
use Rattle.base.specs.Pick.{pick}
use Rattle.base.specs.Lists.{All, Asc}
use Rattle.base.specs.Sort.{sort_of}
use Rattle.base.specs.declared.Best.{Best}
use Rattle.base.proofs.Lists.{all_map, all_append, all_take}
use Rattle.base.proofs.Sort.{all_same, length_same}
use Rattle.rules.specs.Sweep.{Sweep, best}
use Rattle.rules.specs.Interval.{beginning, event_key, event_at, event_coord, spans_from, spans}
use Rattle.rules.proofs.Score.{cases}
use Rattle.rules.proofs.IntervalEvents.{at_key, coord_key}
use Rattle.rules.proofs.IntervalKeys.{insert_keys, delete_keys, spans_merged}
use Rattle.base.specs.declared.Slide.{Slide}
use Rattle.slide_mapper.specs.declared.lists.MapperLists.{MapperLists}
use Rattle.slide_mapper.specs.State.{flags_of, counts_of, slide_of, Blank}
use Rattle.slide_mapper.proofs.State.{counts_at}
use Rattle.rules.specs.Ranks.{Slid}
use Rattle.interval_events.specs.declared.intervals.Intervals.{Intervals}
use Rattle.interval_events.proofs.Spanning.{same_length}
use Rattle.interval_events.specs.Spans.{Asks, raised, Empty, Filled, Start}
use Rattle.interval_events.specs.Events.{kept, keys_of, turns, Local, Made}
use Rattle.interval_work.specs.Work.{Begin, start_keys, end_keys, Given, Tells}
use Rattle.interval_events.proofs.Gathering.{keys_few}

-- ---- given events

blank_none : {cs ws ss : List ℕ} → Blank cs ws ss → (j : ℕ) → get_or (counts_of cs) j 0 ≡ 0
blank_none {cs} b j = omega (arith, counts_at cs j, b.flags j)

module _ {ns ks : List ℕ} {from : ℕ} {cs ws ss : List ℕ} (k : Begin ns ks from cs ws ss) where
  pub begin_empty : (m : MapperLists) {at : Slide} → m.counts.now ≡ cs → Slid (flags_of m.counts.now) (slide_of m.counts.now at) → Empty ns m at
  begin_empty m e s = record {
    pivot = record { slid = s };
    none = λ j. ap (λ (xs : List ℕ). get_or (counts_of xs) j 0) e ∙ blank_none k.blank j;
    numbers = all_map (λ i. i < length cs) (λ i. i < length m.counts.now) (λ i h. omega (arith, ap length e)) ns k.numbers;
    few = k.few;
  }

  pub begin_filled : (m n : MapperLists) {at : Slide} (f : ℕ) → m.counts.now ≡ cs → f ≡ from → Filled ns m n at → Start ks f n at
  begin_filled m n f d e g =
      let long : length n.counts.now ≡ length cs = same_length _ _ g.flags ∙ ap length d in
      record {
        pivot = g.pivot;
        places = all_map (λ x. from < event_at x) (λ x. f < event_at x) (λ x h. omega arith) ks k.places;
        coords = all_map (λ x. event_coord x < length cs) (λ x. event_coord x < length n.counts.now) (λ x h. omega arith) ks k.coords;
        counts = g.few;
        few = k.key_few;
      }

-- ---- the keys of a part

module _ (kind from to limit : ℕ) (two : kind ≤ 1) (small : limit ≤ 65536) where
  abbrev Inside : ℕ → Type 0
  Inside k = (from < event_at k) × (event_coord k < limit)

  one_inside : (p n : ℕ) → n < limit → (b : Bool) → (ltb from p && leb p to) ≡ b → All Inside (pick b (event_key p kind n ∷ []) [])
  unfolding pick
  one_inside p n l true e =
      let h : from < p = ltb-true from p ((and-eq-true_iff (ltb from p) (leb p to)).0 e).0 in
      ((omega (arith, at_key p kind n (omega arith) (omega arith)), omega (arith, coord_key p kind n (omega arith) (omega arith))), tt)
  one_inside p n l false e = tt

  pub keys_inside : (ps ns : List ℕ) → All (λ n. n < limit) ns → All Inside (keys_of kind from to ps ns)
  unfolding keys_of
  keys_inside [] ns a = tt
  keys_inside (p ∷ ps) [] a = tt
  keys_inside (p ∷ ps) (n ∷ ns) a =
      all_append Inside (pick (ltb from p && leb p to) (event_key p kind n ∷ []) []) (keys_of kind from to ps ns) (one_inside p n a.0 (ltb from p && leb p to) refl) (keys_inside ps ns a.1)

-- the start keys ascend with the starts
turn_key : (p n : ℕ) → n < 65536 → event_key p 1 n / 65536 ≡ p * 2 + 1
unfolding event_key
turn_key p n l = omega arith

module _ (from to : ℕ) where
  turns_above : (v : ℕ) (ps ns : List ℕ) → All (λ p. v ≤ p) ps → All (λ n. n < 65536) ns → All (λ t. v * 2 + 1 ≤ t) (turns (keys_of 1 from to ps ns))
  unfolding keys_of pick
  turns_above v [] ns a b = tt
  turns_above v (p ∷ ps) [] a b = tt
  turns_above v (p ∷ ps) (n ∷ ns) a b =
      ⊎_elim (λ (e : (ltb from p && leb p to) ≡ true). rw e (omega (arith, turn_key p n b.0, a.0), turns_above v ps ns a.1 b.1))
      (λ (e : (ltb from p && leb p to) ≡ false). rw e (turns_above v ps ns a.1 b.1)) (cases (ltb from p && leb p to))

  pub turns_asc : (ps ns : List ℕ) → Asc ps → All (λ n. n < 65536) ns → Asc (turns (keys_of 1 from to ps ns))
  unfolding keys_of pick
  turns_asc [] ns a b = tt
  turns_asc (p ∷ ps) [] a b = tt
  turns_asc (p ∷ ps) (n ∷ ns) a b =
      ⊎_elim (λ (e : (ltb from p && leb p to) ≡ true).
      rw e
      (all_map (λ t. p * 2 + 1 ≤ t) (λ t. event_key p 1 n / 65536 ≤ t) (λ t h. omega (arith, turn_key p n b.0)) (turns (keys_of 1 from to ps ns)) (turns_above p ps ns a.0 b.1), turns_asc ps ns a.1 b.1))
      (λ (e : (ltb from p && leb p to) ≡ false). rw e (turns_asc ps ns a.1 b.1)) (cases (ltb from p && leb p to))

pub all_kept : (P : ℕ → Type 0) (from : ℕ) (es xs : List ℕ) → All P xs → All P (kept from es xs)
unfolding kept pick
all_kept P from [] xs a = tt
all_kept P from (e ∷ es) [] a = tt
all_kept P from (e ∷ es) (x ∷ xs) a =
    ⊎_elim (λ (q : ltb from e ≡ true). rw q (a.0, all_kept P from es xs a.1)) (λ (q : ltb from e ≡ false). rw q (all_kept P from es xs a.1)) (cases (ltb from e))

pub asc_kept : (from : ℕ) (es xs : List ℕ) → Asc xs → Asc (kept from es xs)
unfolding kept pick
asc_kept from [] xs r = tt
asc_kept from (e ∷ es) [] r = tt
asc_kept from (e ∷ es) (x ∷ xs) r =
    ⊎_elim (λ (q : ltb from e ≡ true). rw q (all_kept (λ y. x ≤ y) from es xs r.0, asc_kept from es xs r.1)) (λ (q : ltb from e ≡ false). rw q (asc_kept from es xs r.1)) (cases (ltb from e))

-- ---- the sweep over a part

module _ {xs : Intervals} {ns keys cs ws ss out : List ℕ} {from : ℕ} (g : Given xs ns keys cs ws ss out from) (to : ℕ) where
  abbrev starts : List ℕ
  starts = xs.starts.now

  abbrev ends : List ℕ
  ends = xs.ends.now

  pub given_local : Local from to xs ns keys out
  given_local = record {
    taken = g.taken_are;
    few = g.few;
    key_room = g.key_room;
    room = g.room;
    order = turns_asc from to (kept from ends starts) ns (asc_kept from ends starts xs.asc) (all_map (λ n. n < length cs) (λ n. n < 65536) (λ n h. omega (arith, g.blank.small)) ns g.numbers);
  }

  module _ {out' : List ℕ} {r q : ℕ} (m : Made from to xs ns out' r q) where
    abbrev ks : List ℕ
    ks = take (q + r) out'

    abbrev both : List ℕ
    both = start_keys from to starts ends ns ++ end_keys from to ends ns

    pub given_few : r ≤ length ns
    given_few = omega (arith, m.start_keys, keys_few 1 from to (kept from ends starts) ns)

    pub given_sum : q + r ≤ length ns + length ns
    given_sum = omega (arith, given_few, m.end_keys, keys_few 0 from to (kept from ends ends) ns)

    inside : All (λ k. (from < event_at k) × (event_coord k < length cs)) ks
    inside =
        all_same (λ k. (from < event_at k) × (event_coord k < length cs)) ks both (sym m.merged.same)
        (all_append (λ k. (from < event_at k) × (event_coord k < length cs)) (start_keys from to starts ends ns) (end_keys from to ends ns) (keys_inside 1 from to (length cs) (omega arith) (omega (arith, g.blank.small)) (kept from ends starts) ns g.numbers) (keys_inside 0 from to (length cs) (omega arith) (omega (arith, g.blank.small)) (kept from ends ends) ns g.numbers))

    pub given_begin : (p : ℕ) → p ≡ length ns - r → Begin (take p ns) ks from cs ws ss
    given_begin p e = record {
      blank = g.blank;
      numbers = all_take (λ n. n < length cs) p ns g.numbers;
      few = omega (arith, length-take-le p ns (omega arith), g.few);
      places = all_map (λ k. (from < event_at k) × (event_coord k < length cs)) (λ k. from < event_at k) (λ k h. h.0) ks inside;
      coords = all_map (λ k. (from < event_at k) × (event_coord k < length cs)) (λ k. event_coord k < length cs) (λ k h. h.1) ks inside;
      key_few = omega (arith, length_same both ks m.merged.same, length-append (start_keys from to starts ends ns) (end_keys from to ends ns), keys_few 1 from to (kept from ends starts) ns, keys_few 0 from to (kept from ends ends) ns, g.few);
    }

    pub given_best : (b : Best) (p : ℕ) → p ≡ length ns - r → ((s : Sweep) → Asks s (flags_of cs) to → b ≡ best (spans_from s from (raised (take p ns) (counts_of cs)) ks)) → (s : Sweep) → Tells s (flags_of cs) (counts_of cs) xs ns from to → b ≡ best (spans s)
    given_best b p e f s t =
        let begun : raised (take p ns) (counts_of cs) ≡ beginning s = ap (λ (n : ℕ). raised (take n ns) (counts_of cs)) (e ∙ ap (λ (n : ℕ). length ns - n) m.start_keys) ∙ sym t.begins in
        let all : sort_of ks ≡ sort_of (insert_keys s ++ delete_keys s) = m.merged.same ∙ ap sort_of (ap (λ (xs : List ℕ). xs ++ end_keys from to ends ns) (sym t.inserts) ∙ ap (λ (xs : List ℕ). insert_keys s ++ xs) (sym t.deletes)) in
        f s t.asks ∙ ap (λ (q : ℕ). best (spans_from s q (raised (take p ns) (counts_of cs)) ks)) (sym t.start) ∙ ap (λ (xs : List ℕ). best (spans_from s s.range.start xs ks)) begun ∙
        ap best (spans_merged s ks all m.merged.order)
