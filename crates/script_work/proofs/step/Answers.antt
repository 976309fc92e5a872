-- `step` is the rules' move of its kind.
use Rattle.script_work.proofs.Running.{stepped_insert, stepped_delete}
use Rattle.script_work.proofs.step.Goals as goal

pub returns-in-Insert : goal.returns-in-Insert
returns-in-Insert c = rw c.in-Insert.is (stepped_insert c.requires.at c.requires.inside c.insert_ref.ensures.entered)

pub returns-in-Delete : goal.returns-in-Delete
returns-in-Delete c = rw c.in-Delete.is (stepped_delete c.requires.at c.requires.inside c.delete_ref.ensures.left)
