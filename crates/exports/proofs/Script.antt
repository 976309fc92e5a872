-- The C struct of an answer is what the rules tell of it, case by case; so the call's promise carries over to the struct.
use mathlib.Core.Path.{◌≡◌, ap, ◌∙◌}
use Rattle.base.specs.Answers.{ScriptAnswer}
use Rattle.rules.specs.Script.{Script}
use Rattle.rules.specs.Told.{told_script}
use Rattle.rules.specs.Calls.{ScriptLent, ScriptPromise}
use Rattle.exports.specs.declared.scripts.ScriptOut.{ScriptOut}
use Rattle.exports.specs.Script.{out_of, Exported}

pub exported : {s : Script} {a : ScriptAnswer} {r : ScriptOut} {before after : ScriptLent} → r ≡ out_of (told_script a) → ScriptPromise s a before after → Exported s r before after
exported e promise = record { answer = e ∙ ap out_of promise.answer; left = promise.left }
