-- A job that was read, and its answer.
use Rattle.std.specs.Prelude.{[]}
use Rattle.base.specs.Answers.{SweepAnswer}
use Rattle.rules.specs.Sweep.{Sweep}
use Rattle.rules.specs.Place.{minimizer_answer, interval_answer}
use Rattle.rules.specs.Refusals.{minimizer_input_in, interval_input_in, sweep_answer_of}
use Rattle.job_fields.specs.declared.mode.Mode.TheVariants.{Minimizer, Interval}
use Rattle.job.specs.declared.fronts.Job.{Job}

-- the sweep of a job in minimizer mode: there are no ends
abbrev pub points_of : Job → Sweep
points_of j = record {
  query = j.query.now;
  hashes = j.hashes.now;
  starts = j.starts.now;
  ends = [];
  settings = j.asked.settings;
  window = j.asked.window;
  range = j.asked.range;
  identities = j.identities.now;
  uppers = j.uppers.now;
  minimum = j.minimum;
}

-- and in interval mode: there is no window
abbrev pub spans_of : Job → Sweep
spans_of j = record {
  query = j.query.now;
  hashes = j.hashes.now;
  starts = j.starts.now;
  ends = j.ends.now;
  settings = j.asked.settings;
  window = 0;
  range = j.asked.range;
  identities = j.identities.now;
  uppers = j.uppers.now;
  minimum = j.minimum;
}

-- the library's checks of the input, then the sweep
unfoldable pub minimizer_done : Sweep → SweepAnswer
minimizer_done s = sweep_answer_of (minimizer_input_in s) (minimizer_answer s)

unfoldable pub interval_done : Sweep → SweepAnswer
interval_done s = sweep_answer_of (interval_input_in s) (interval_answer s)

-- the answer of the job
unfoldable pub answer_in : Job → SweepAnswer
answer_in j = elim j.mode [
  | Minimizer ↦ minimizer_done (points_of j)
  | Interval ↦ interval_done (spans_of j)
]
