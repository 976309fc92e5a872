-- The theorem of demand 3 for the interval sweep, about the definitions: where none of the early nones holds and every taken interval ends after it starts, the
-- best by steps is the best of scoring every position from range start to range end, first and last included, and so the answers are the same.
-- It holds because each span is a run of positions of one score (IntervalSpans), and the best of a list is the best of its runs (Sweep).
-- Assumes nothing.
use Prim.Native.Nat.{ℕ, ◌+◌, ◌-◌, ◌*◌, ◌≤◌, ◌<◌}
use native.Mathlib.Omega.{arith}
use mathlib.Core.Path.{◌≡◌, refl, sym, ◌∙◌}
use mathlib.Core.Logic.{⊎_elim}
use mathlib.Core.Bool.{Bool, true, false, ◌&&◌, ◌||◌, not, false≢true, and-eq-true_iff, or-true}
use mathlib.Core.List.{List, [], ◌∷◌}
use lib.ListN.{length, get_or, length-replicate, get_or-replicate, length-map}
use lib.Dec.{ltb, leb, eqb}
use borrow.Author.Tests.{ltb-true, ltb-false, leb-true, eqb-true, not-true}
use Rattle.base.specs.Pick.{pick}
use Rattle.base.specs.Verdicts.{Verdict}
use Rattle.base.specs.Verdicts.{Fine}
use Rattle.base.specs.Lists.{All}
use Rattle.base.proofs.Lists.{all_map}
use Rattle.rules.specs.Lists.{member, count, filter}
use Rattle.rules.specs.Script.{no_counts}
use Rattle.rules.specs.Sweep.{Sweep, best}
use Rattle.rules.specs.Interval.{Interval, intervals_of, is_taken, taken, coords_of, hashes_of, kmers_per_start, event_at, events, beginning, spans, scored_positions}
use Rattle.rules.specs.Place.{interval_early, interval_from, interval_answer, interval_by_scoring}
use Rattle.rules.specs.Limits.{query_limit, item_limit}
use Rattle.base.specs.Verdicts.{refuse, or_else}
use Rattle.rules.specs.Checks.{interval_sizes, sweep_orders, sweep_table, interval_input, sweep_needs, keys_need}
use Rattle.rules.specs.Refusals.{SweepRoom, need, interval_input_in, interval_verdict, sweep_answer_of, interval_call}
use Rattle.rules.specs.Calls.{interval_premises}
use Rattle.rules.proofs.Score.{cases, length-filter, member_all, member_union, number_fits, length_union}
use Rattle.rules.proofs.Sweep.{runs_best}
use Rattle.rules.proofs.IntervalEach.{Each, each_map, each_both, each_all, each_passes, each_count}
use Rattle.rules.proofs.IntervalEvents.{Good, Key, on, inserts, deletes, last_key, past_last, later_all, event_keys, event_order, event_cover}
use Rattle.rules.proofs.IntervalActive.{length_inserted, inserted_at, begun_on}
use Rattle.rules.proofs.IntervalSpans.{Swept, strict_coords, spans_runs}
use Rattle.std.specs.Prelude.{Ok, Err}
use Rattle.base.specs.declared.Reason.{Reason}
use Rattle.base.specs.declared.Reason.TheVariants.{TooLarge}

-- ---- what is known of the taken intervals

pub taken_members : (s : Sweep) → Each (λ i. member i.hash (coords_of s) ≡ true) (taken s)
unfolding coords_of hashes_of
taken_members s =
    each_all (λ h. member h (coords_of s) ≡ true) (λ i. i.hash) (taken s)
    (member_all (λ h. member h (coords_of s) ≡ true) (hashes_of (taken s))
    (λ h m. member_union h s.query (hashes_of (taken s)) ∙ rw m (or-true (member h s.query))))

pub taken_passes : (s : Sweep) → Each (λ i. is_taken s i ≡ true) (taken s)
unfolding taken
taken_passes s = each_passes (is_taken s) (intervals_of s.hashes s.starts s.ends)

good_one : (s : Sweep) (i : Interval) → (is_taken s i ≡ true) × ((ltb i.start i.end ≡ true) × (member i.hash (coords_of s) ≡ true)) → Good s (coords_of s) i
unfolding is_taken
good_one s i h =
    let after = leb (s.range.start - kmers_per_start s) i.start in
    let both = (and-eq-true_iff (after && leb i.start s.range.end) (ltb s.range.start i.end)).0 h.0 in
    record {
      begins = leb-true i.start s.range.end ((and-eq-true_iff after (leb i.start s.range.end)).0 both.0).1;
      lasts = ltb-true s.range.start i.end both.1;
      forward = ltb-true i.start i.end h.1.0;
      fits = number_fits (coords_of s) (strict_coords s) i.hash h.1.1;
    }

-- every taken interval ends after it starts
abbrev forward : Interval → Bool
forward i = ltb i.start i.end

taken_good : (s : Sweep) → count forward (taken s) ≡ length (taken s) → Each (Good s (coords_of s)) (taken s)
taken_good s e =
    let ends : Interval → Type 0 = λ i. forward i ≡ true in
    let known : Interval → Type 0 = λ i. member i.hash (coords_of s) ≡ true in
    each_map (λ i. (is_taken s i ≡ true) × (ends i × known i)) (Good s (coords_of s)) (good_one s) (taken s)
    (each_both (λ i. is_taken s i ≡ true) (λ i. ends i × known i) (taken s) (taken_passes s)
    (each_both ends known (taken s) (each_count forward (taken s) e) (taken_members s)))

-- ---- the sweep before its first key

module _ (s : Sweep) (small : length (coords_of s) ≤ 65536) (good : Each (Good s (coords_of s)) (taken s)) (order : s.range.start ≤ s.range.end) where
  length-beginning : length (beginning s) ≡ length (coords_of s)
  unfolding beginning no_counts
  length-beginning = length_inserted (coords_of s) (hashes_of (filter (λ (i : Interval). leb i.start s.range.start) (taken s))) (no_counts (coords_of s)) ∙ length-replicate (length (coords_of s)) 0

  beginning-on : (c : ℕ) → c < length (coords_of s) → get_or (beginning s) c 0 ≡ count (on (coords_of s) s.range.start c) (taken s)
  unfolding beginning no_counts
  beginning-on c l =
      let none : get_or (no_counts (coords_of s)) c 0 ≡ 0 = get_or-replicate (length (coords_of s)) c 0 0 l in
      omega (arith, inserted_at (coords_of s) (hashes_of (filter (λ (i : Interval). leb i.start s.range.start) (taken s))) (no_counts (coords_of s)) c (omega (arith, length-replicate {A = ℕ} (length (coords_of s)) 0)), none, begun_on (coords_of s) s.range.start c (taken s) (each_map (Good s (coords_of s)) (λ i. s.range.start < i.end) (λ i g. g.lasts) (taken s) good))

  swept_first : Swept s (s.range.start * 131072) (beginning s) (events s)
  unfolding event_at
  swept_first =
      let beyond : All (λ k. last_key s.range.start < k) (events s) = all_map (Key s (coords_of s)) (λ k. last_key s.range.start < k) (λ k key. past_last s.range.start k key.after) (events s) (event_keys s small good) in
      record {
        order = (all_map (λ k. last_key s.range.start < k) (λ k. s.range.start * 131072 ≤ k) (λ k l. omega arith) (events s) beyond, event_order s small good);
        keys = event_keys s small good;
        gone = λ t place l. refl;
        sized = length-beginning;
        kept = λ c l. omega (arith, beginning-on c l, event_cover s small good c s.range.start (omega arith) order, later_all (last_key s.range.start) (inserts c) (events s) beyond, later_all (last_key s.range.start) (deletes c) (events s) beyond);
      }

  spans-best : best (spans s) ≡ best (scored_positions s)
  unfolding spans scored_positions event_at
  spans-best = sym (runs_best (spans_runs s small good (taken_members s) (events s) (s.range.start * 131072) s.range.start (beginning s) swept_first (omega arith) (omega arith) order))

-- ---- the theorem

either_false : (a b : Bool) → (a || b) ≡ false → (a ≡ false) × (b ≡ false)
either_false true b e = absurd (false≢true (sym e))
either_false false b e = (refl, e)

early_order : (s : Sweep) → interval_early s ≡ false → s.range.start ≤ s.range.end
unfolding interval_early
early_order s e =
    let short = ltb s.settings.length s.settings.kmer || eqb (length s.query) 0 in
    let reversed = ltb s.range.end s.range.start in
    ltb-false s.range.end s.range.start (either_false short reversed (either_false (short || reversed) (eqb (length (taken s)) 0) e).0).1

module _ (s : Sweep) (premises : interval_premises s ≡ true) (small : length (coords_of s) ≤ 65536) where
  -- by steps as by scoring every position: the same score, first and last
  pub interval_best : best (spans s) ≡ best (scored_positions s)
  unfolding interval_premises
  interval_best =
      let both = (and-eq-true_iff (not (interval_early s)) (eqb (count forward (taken s)) (length (taken s)))).0 premises in
      spans-best s small (taken_good s (eqb-true (count forward (taken s)) (length (taken s)) both.1)) (early_order s (not-true (interval_early s) both.0))

  pub interval_demand_3 : interval_answer s ≡ interval_by_scoring s
  unfolding interval_answer interval_by_scoring interval_from
  interval_demand_3 = rw interval_best

-- the premise on the coordinates holds where the sizes keep their limits

length_intervals : (hs ss es : List ℕ) → length (intervals_of hs ss es) ≤ length hs
unfolding intervals_of
length_intervals [] ss es = omega arith
length_intervals (h ∷ hs) [] es = omega arith
length_intervals (h ∷ hs) (p ∷ ss) [] = omega arith
length_intervals (h ∷ hs) (p ∷ ss) (e ∷ es) = omega (arith, length_intervals hs ss es)

pub length_taken : (s : Sweep) → length (taken s) ≤ length s.hashes
unfolding taken
length_taken s =
    omega (arith, length-filter (is_taken s) (intervals_of s.hashes s.starts s.ends), length_intervals s.hashes s.starts s.ends)

pub length_coords : (s : Sweep) → length (coords_of s) ≤ length s.query + length (taken s)
unfolding coords_of hashes_of
length_coords s = omega (arith, length_union s.query (hashes_of (taken s)), length-map (taken s) (λ (i : Interval). i.hash))

-- the limits on query hashes and items leave at most 65,536 coordinates
pub coords_fit : (s : Sweep) → length s.query ≤ query_limit → length s.hashes ≤ item_limit → length (coords_of s) ≤ 65536
coords_fit s q h = omega (arith, length_coords s, length_taken s)

else_fine : (v w : Verdict) → or_else v w ≡ Fine → v ≡ Fine
unfolding or_else
else_fine (Ok u) w e = refl
else_fine (Err r) w e = e

never_refused : (reason : Reason) → refuse reason 0 ≡ Fine → ⊥
never_refused number e = let z : ◌≡◌ {A = ℕ} 0 1 = cc in omega arith

sizes_fine : (query hashes starts ends identities uppers kmer : ℕ) → interval_sizes query hashes starts ends identities uppers kmer ≡ Fine → (query ≤ query_limit) × (hashes ≤ item_limit)
unfolding pick
sizes_fine query hashes starts ends identities uppers kmer e =
    ⊎_elim (λ (q : ltb query_limit query ≡ true). absurd (never_refused TooLarge (rw q at e)))
    (λ (q : ltb query_limit query ≡ false).
    ⊎_elim (λ (h : ltb item_limit hashes ≡ true). absurd (never_refused TooLarge (rw (q, h) at e))) (λ (h : ltb item_limit hashes ≡ false). (ltb-false query_limit query q, ltb-false item_limit hashes h)) (cases (ltb item_limit hashes))) (cases (ltb query_limit query))

-- what the checks let through has its coordinates in 16 bits
pub fine_coords : (s : Sweep) → interval_input_in s ≡ Fine → length (coords_of s) ≤ 65536
unfolding interval_input_in interval_input
fine_coords s e =
    let sizes = sizes_fine (length s.query) (length s.hashes) (length s.starts) (length s.ends) (length s.identities) (length s.uppers) s.settings.kmer
    (else_fine (interval_sizes (length s.query) (length s.hashes) (length s.starts) (length s.ends) (length s.identities) (length s.uppers) s.settings.kmer) (or_else (sweep_orders s.query s.starts) (sweep_table (length s.query) (length s.identities))) e) in
    coords_fit s sizes.0 sizes.1

scored_of : (s : Sweep) (v : Verdict) → (v ≡ Fine → length (coords_of s) ≤ 65536) → interval_premises s ≡ true → sweep_answer_of v (interval_answer s) ≡ sweep_answer_of v (interval_by_scoring s)
unfolding sweep_answer_of
scored_of s (Ok u) small premises = interval_demand_3 s premises (small refl)
scored_of s (Err r) small premises = refl

-- the whole call, refusals included, by scoring
pub interval_scored_lem : (s : Sweep) (room : SweepRoom) (keys : ℕ) → interval_premises s ≡ true → interval_call s room keys ≡ sweep_answer_of (interval_verdict s room keys) (interval_by_scoring s)
unfolding interval_call interval_verdict
interval_scored_lem s room keys premises =
    let needs = or_else (sweep_needs (need s) room.hashes room.counts room.coords room.words room.summary) (keys_need (length s.hashes) keys) in
    scored_of s (interval_verdict s room keys) (λ e. fine_coords s (else_fine (interval_input_in s) needs e)) premises
