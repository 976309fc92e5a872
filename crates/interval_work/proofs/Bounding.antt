-- Between the bounds stand the intervals that may be taken: the rules' taken intervals are those of the part that end past range start, since starts ascend.
-- Assumes nothing.
use mathlib.Core.Path.{◌≡◌, sym, ap, subst, ◌∙◌}
use mathlib.Core.Logic.{⊎_elim}
use mathlib.Core.List.{List, [], ◌∷◌}
use Prim.Native.Nat.{ℕ, suc, ◌+◌, ◌-◌, ◌≤◌, ◌<◌}
use native.Mathlib.Omega.{arith}
use lib.Dec.{ltb}
use lib.ListN.{length, take, drop}
use Rattle.base.specs.Lists.{All, Asc}
use Rattle.base.specs.declared.Range.{Range}
use Rattle.base.specs.declared.Settings.{Settings}
use Rattle.base.proofs.Lists.{all_map, all_drop}
use Rattle.std.proofs.lemmas.Bool.{cases_lt}
use Rattle.rules.specs.Lists.{filter}
use Rattle.rules.specs.Score.{number_of}
use Rattle.rules.specs.Sweep.{Sweep}
use Rattle.rules.specs.Interval.{Interval, intervals_of, kmers_per_start}
use Rattle.rules.proofs.Score.{none_below, number_later, number_skip, number_up, number_most}
use Rattle.rules.proofs.IntervalTaken.{taken_from, taken_to, taken_part, intervals_part}
use Rattle.keys.proofs.Numbers.{below_number}
use Rattle.interval_events.specs.declared.intervals.Intervals.{Intervals}
use Rattle.interval_work.specs.Work.{Part, Ready, Of}
use Rattle.interval_events.proofs.Gathering.{take_behind}

-- ---- how many are below

none_number : (v x : ℕ) (xs : List ℕ) → v ≤ x → All (λ y. x ≤ y) xs → number_of xs v ≡ 0
none_number v x xs l a = none_below v xs (all_map (λ y. x ≤ y) (λ y. v ≤ y) (λ y m. omega arith) xs a)

-- those in front are below
front_below : (v : ℕ) (xs : List ℕ) → Asc xs → All (λ p. p < v) (take (number_of xs v) xs)
front_below v [] r = rw (none_below v [] tt) tt
front_below v (x ∷ xs) r =
    ⊎_elim (λ (l : x < v).
    let e : number_of (x ∷ xs) v ≡ suc (number_of xs v) = omega (arith, number_later x v xs l) in
    rw e (l, front_below v xs r.1))
    (λ (l : v ≤ x).
    let e : number_of (x ∷ xs) v ≡ 0 = omega (arith, number_skip x v xs l, none_number v x xs l r.0) in
    rw e tt) (cases_lt x v)

-- ---- the part

module _ {query : List ℕ} {xs : Intervals} {settings : Settings} {range : Range} {from to : ℕ} (k : Ready query xs settings range from to) where
  abbrev hashes : List ℕ
  hashes = xs.hashes.now

  abbrev starts : List ℕ
  starts = xs.starts.now

  abbrev ends : List ℕ
  ends = xs.ends.now

  abbrev lo : ℕ
  lo = range.start - (settings.length + 1 - settings.kmer)

  abbrev hi : ℕ
  hi = range.end + 1

  from_number : from ≡ number_of starts lo
  from_number = k.from_is ∙ below_number lo starts

  to_number : to ≡ number_of starts hi
  to_number = k.to_is ∙ below_number hi starts

  pub bounds_up : (from ≤ to) × (to ≤ length hashes)
  bounds_up = (omega (arith, number_up starts lo hi (omega (arith, k.forward)), from_number, to_number), omega (arith, number_most starts hi, to_number, xs.same_starts))

  abbrev cut : List ℕ → List ℕ
  cut xs = take (to - from) (drop from xs)

  pub cut_part : (s : Sweep) → Of s query xs settings range → (part : Intervals) → part.hashes.now ≡ cut hashes → part.starts.now ≡ cut starts → part.ends.now ≡ cut ends → Part s query part range.start range.end
  unfolding kmers_per_start
  cut_part s o part hs ss es =
      let is = intervals_of s.hashes s.starts s.ends in
      let lo_is : s.range.start - kmers_per_start s ≡ lo = ap (λ (g : Range). g.start - kmers_per_start s) o.range_is ∙ ap (λ (t : Settings). range.start - (t.length + 1 - t.kmer)) o.settings_are in
      let f : taken_from s ≡ from = ap (number_of s.starts) lo_is ∙ ap (λ (xs : List ℕ). number_of xs lo) o.starts_are ∙ sym from_number in
      let t : taken_to s ≡ to = ap (λ (g : Range). number_of s.starts (g.end + 1)) o.range_is ∙ ap (λ (xs : List ℕ). number_of xs hi) o.starts_are ∙ sym to_number in
      let all : is ≡ intervals_of hashes starts ends = ap (λ (xs : List ℕ). intervals_of xs s.starts s.ends) o.hashes_are ∙ ap (λ (xs : List ℕ). intervals_of hashes xs s.ends) o.starts_are ∙ ap (intervals_of hashes starts) o.ends_are in
      let start : s.range.start ≡ range.start = ap (λ (g : Range). g.start) o.range_is in
      record {
        query_is = o.query_is;
        start_is = start;
        end_is = ap (λ (g : Range). g.end) o.range_is;
        taken_is =
            taken_part s (ap length o.starts_are ∙ xs.same_starts ∙ ap length (sym o.hashes_are)) (ap length o.ends_are ∙ xs.same_ends ∙ ap length (sym o.hashes_are)) (subst (λ (xs : List ℕ). Asc xs) (sym o.starts_are) xs.asc) ∙
            ap (λ (a : ℕ). filter (λ (i : Interval). ltb a i.end) (take (taken_to s - taken_from s) (drop (taken_from s) is))) start ∙
            ap (filter (λ (i : Interval). ltb range.start i.end))
            (ap (λ (b : ℕ). take (b - taken_from s) (drop (taken_from s) is)) t ∙ ap (λ (a : ℕ). take (to - a) (drop a is)) f ∙ ap (λ (js : List Interval). take (to - from) (drop from js)) all ∙ intervals_part (to - from) from hashes starts ends ∙
            sym (ap (λ (ys : List ℕ). intervals_of ys part.starts.now part.ends.now) hs ∙ ap (λ (ys : List ℕ). intervals_of (cut hashes) ys part.ends.now) ss ∙ ap (intervals_of (cut hashes) (cut starts)) es));
        starts_end =
            let here : drop from (take to starts) ≡ part.starts.now = ap (λ (n : ℕ). drop from (take n starts)) (let e : to ≡ from + (to - from) = omega (arith, bounds_up.0) in e) ∙ take_behind (to - from) from starts ∙ sym ss in
            subst (λ (xs : List ℕ). All (λ p. p ≤ range.end) xs) here
            (all_drop (λ p. p ≤ range.end) from (take to starts)
            (subst (λ (n : ℕ). All (λ p. p ≤ range.end) (take n starts)) (sym to_number) (all_map (λ p. p < hi) (λ p. p ≤ range.end) (λ p h. omega arith) (take (number_of starts hi) starts) (front_below hi starts xs.asc))));
      }
