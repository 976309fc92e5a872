-- The sweeps as C sees them.
use Rattle.std.specs.Prelude.{◌≡◌, true, List, [], ◌∷◌, ℕ, ◌*◌, length, get_or, Float}
use Rattle.std.specs.Float.{binary64}
use Rattle.std.specs.Float.Ieee.{of_bits}
use Rattle.rules.specs.Sweep.{Sweep}
use Rattle.rules.specs.Refusals.{need, minimizer_verdict, minimizer_call, minimizer_scored, interval_verdict, interval_call, interval_scored, work_left}
use Rattle.rules.specs.Told.{Told, told_sweep}
use Rattle.rules.specs.Calls.{SweepLent, sweep_room_of, SweepLeft, minimizer_premises, interval_premises}
use Rattle.exports.specs.declared.sweeps.SweepOut.{SweepOut}

-- 0.0
abbrev pub f0 : Float
f0 = of_bits binary64 0

-- the values of none (windows, coordinates, items), which a refusal lacks; and those of a place (start, end, shared, query size, then the same
-- three) with its estimate
unfoldable pub sweep_fields : ℕ → ℕ → List ℕ → List Float → SweepOut
sweep_fields number place values [] = record {
  number = number;
  place = place;
  found = 0;
  start = 0;
  end = 0;
  shared = 0;
  size = 0;
  identity = f0;
  upper = f0;
  windows = get_or values 0 0;
  coords = get_or values 1 0;
  items = get_or values 2 0;
}
sweep_fields number place values (identity ∷ uppers) = record {
  number = number;
  place = place;
  found = 1;
  start = get_or values 0 0;
  end = get_or values 1 0;
  shared = get_or values 2 0;
  size = get_or values 3 0;
  identity = identity;
  upper = get_or uppers 0 f0;
  windows = get_or values 4 0;
  coords = get_or values 5 0;
  items = get_or values 6 0;
}

-- what is told, field by field; what it does not have is 0
unfoldable pub sweep_out_of : Told → SweepOut
sweep_out_of t = sweep_fields t.number t.place t.values t.estimate

-- the promise of the minimizer sweep, its answer as that struct
pub record MinimizerExported (s : Sweep) (r : SweepOut) (before after : SweepLent) : Type 0 where
  pub answer : r ≡ sweep_out_of (told_sweep (minimizer_call s (sweep_room_of before)))
  pub scored : minimizer_premises s ≡ true → r ≡ sweep_out_of (told_sweep (minimizer_scored s (sweep_room_of before)))
  pub left : SweepLeft (minimizer_verdict s (sweep_room_of before)) (need s) before after

-- that of the interval sweep, and the event keys
pub record IntervalExported (s : Sweep) (r : SweepOut) (before after : SweepLent) (keys keys' : List ℕ) : Type 0 where
  pub answer : r ≡ sweep_out_of (told_sweep (interval_call s (sweep_room_of before) (length keys)))
  pub scored : interval_premises s ≡ true → r ≡ sweep_out_of (told_sweep (interval_scored s (sweep_room_of before) (length keys)))
  pub left : SweepLeft (interval_verdict s (sweep_room_of before) (length keys)) (need s) before after
  pub keys_left : keys' ≡ work_left (interval_verdict s (sweep_room_of before) (length keys)) (2 * length s.hashes) keys
