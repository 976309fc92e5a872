-- The C struct of a finder's answer is what the rules tell of it, case by case; so the call's promise carries over to the struct.
use mathlib.Core.Path.{◌≡◌, ap, ◌∙◌}
use mathlib.Core.List.{List}
use Prim.Native.Nat.{ℕ}
use Rattle.base.specs.Answers.{FinderAnswer}
use Rattle.rules.specs.Finder.{Finder}
use Rattle.rules.specs.Told.{told_finder}
use Rattle.rules.specs.Calls.{FinderLent, MinimizerFinderPromise, IntervalFinderPromise}
use Rattle.exports.specs.declared.finders.FinderOut.{FinderOut}
use Rattle.exports.specs.Finder.{finder_out_of, MinimizerFinderExported, IntervalFinderExported}

pub minimizer_finder_exported : {f : Finder} {a : FinderAnswer} {r : FinderOut} {before after : FinderLent} → r ≡ finder_out_of (told_finder a) → MinimizerFinderPromise f a before after → MinimizerFinderExported f r before after
minimizer_finder_exported e promise = record { answer = e ∙ ap finder_out_of promise.answer; left = promise.left }

pub interval_finder_exported : {f : Finder} {a : FinderAnswer} {r : FinderOut} {before after : FinderLent} {end_keys end_keys' : List ℕ} → r ≡ finder_out_of (told_finder a) → IntervalFinderPromise f a before after end_keys end_keys' → IntervalFinderExported f r before after end_keys end_keys'
interval_finder_exported e promise = record { answer = e ∙ ap finder_out_of promise.answer; left = promise.left; end_keys_left = promise.end_keys_left }
