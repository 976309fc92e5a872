-- The interval sweep does not look at the window: every part of its answer is made of the other fields, and the spans follow one after the other. Assumes nothing.
use Prim.Native.Nat.{ℕ, ◌-◌}
use mathlib.Core.Path.{◌≡◌, refl, ap}
use mathlib.Core.List.{List, [], ◌∷◌, ◌++◌}
use lib.Dec.{eqb}
use Rattle.base.specs.Pick.{pick}
use Rattle.rules.specs.Script.{stepped}
use Rattle.rules.specs.Sweep.{Sweep, Scored}
use Rattle.rules.specs.Interval.{kmers_per_start, is_taken, taken, coords_of, event_at, event_kind, event_coord, events_of, events, beginning, span, spans_from, spans}
use Rattle.rules.specs.Place.{settled_in, interval_early, interval_stats, interval_from, interval_answer}
use Rattle.rules.specs.Refusals.{interval_input_in, sweep_answer_of}
use Rattle.job_answer.specs.Mapped.{interval_done}

-- the sweep with another window
abbrev pub windowed : ℕ → Sweep → Sweep
windowed w s = record {
  query = s.query;
  hashes = s.hashes;
  starts = s.starts;
  ends = s.ends;
  settings = s.settings;
  window = w;
  range = s.range;
  identities = s.identities;
  uppers = s.uppers;
  minimum = s.minimum;
}

module _ (w : ℕ) (s : Sweep) where
  spans_same : (from : ℕ) (counts ks : List ℕ) → spans_from (windowed w s) from counts ks ≡ spans_from s from counts ks
  unfolding spans_from span coords_of taken is_taken kmers_per_start
  spans_same from counts [] = refl
  spans_same from counts (k ∷ ks) =
      ap (λ (rest : List Scored). pick (eqb (event_at k) from) [] (span s counts from (event_at k - 1) ∷ []) ++ rest)
      (spans_same (event_at k) (stepped (event_kind k) (event_coord k) counts) ks)

  all_same : spans (windowed w s) ≡ spans s
  unfolding spans beginning events events_of coords_of taken is_taken kmers_per_start
  all_same = spans_same s.range.start (beginning s) (events s)

  answer_same : interval_answer (windowed w s) ≡ interval_answer s
  unfolding interval_answer interval_from interval_early interval_stats settled_in coords_of taken is_taken kmers_per_start
  answer_same = ap (λ (scores : List Scored). interval_from s scores) all_same

  pub window_unseen : interval_done (windowed w s) ≡ interval_done s
  unfolding interval_done interval_input_in
  window_unseen = ap (sweep_answer_of (interval_input_in s)) answer_same
