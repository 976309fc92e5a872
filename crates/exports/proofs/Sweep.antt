-- The C struct of a sweep's answer is what the rules tell of it, case by case; so the call's promise carries over to the struct.
use mathlib.Core.Path.{◌≡◌, ap, ◌∙◌}
use mathlib.Core.List.{List}
use Prim.Native.Nat.{ℕ}
use Rattle.base.specs.Answers.{SweepAnswer}
use Rattle.rules.specs.Sweep.{Sweep}
use Rattle.rules.specs.Told.{told_sweep}
use Rattle.rules.specs.Calls.{SweepLent, MinimizerPromise, IntervalPromise}
use Rattle.exports.specs.declared.sweeps.SweepOut.{SweepOut}
use Rattle.exports.specs.Sweep.{sweep_out_of, MinimizerExported, IntervalExported}

pub minimizer_exported : {s : Sweep} {a : SweepAnswer} {r : SweepOut} {before after : SweepLent} → r ≡ sweep_out_of (told_sweep a) → MinimizerPromise s a before after → MinimizerExported s r before after
minimizer_exported e promise = record {
  answer = e ∙ ap sweep_out_of promise.answer;
  scored = λ premises. e ∙ ap sweep_out_of (promise.scored premises);
  left = promise.left;
}

pub interval_exported : {s : Sweep} {a : SweepAnswer} {r : SweepOut} {before after : SweepLent} {keys keys' : List ℕ} → r ≡ sweep_out_of (told_sweep a) → IntervalPromise s a before after keys keys' → IntervalExported s r before after keys keys'
interval_exported e promise = record {
  answer = e ∙ ap sweep_out_of promise.answer;
  scored = λ premises. e ∙ ap sweep_out_of (promise.scored premises);
  left = promise.left;
  keys_left = promise.keys_left;
}
