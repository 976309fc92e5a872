-- The script call as C sees it.
use Rattle.std.specs.Prelude.{◌≡◌, length, get_or}
use Rattle.rules.specs.Script.{Script, looks}
use Rattle.rules.specs.Refusals.{script_verdict, script_call}
use Rattle.rules.specs.Told.{Told, told_script}
use Rattle.rules.specs.Calls.{ScriptLent, script_room_of, ScriptLeft}
use Rattle.exports.specs.declared.scripts.ScriptOut.{ScriptOut}

-- what is told, field by field: the number, the place, and the two values of a script that was done, else 0
unfoldable pub out_of : Told → ScriptOut
out_of t = record { number = t.number; place = t.place; pivot = get_or t.values 0 0; shared = get_or t.values 1 0 }

-- the promise of the script, its answer as that struct
pub record Exported (s : Script) (r : ScriptOut) (before after : ScriptLent) : Type 0 where
  pub answer : r ≡ out_of (told_script (script_call s (script_room_of before)))
  pub left : ScriptLeft (script_verdict s (script_room_of before)) (length s.coords) (looks s) before after
