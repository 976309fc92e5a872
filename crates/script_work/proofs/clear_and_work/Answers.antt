-- `clear_and_work` answers what the rules answer of the script, since it begins where they begin; every work list is cleared at the end.
use native.Mathlib.Omega.{arith}
use Rattle.script_work.proofs.Whole.{exact_clear, start_run, run_answers}
use Rattle.script_work.proofs.clear_and_work.Goals as goal

pub run-last-requires : goal.run-last-requires
run-last-requires c = start_run c.args.query c.args.steps c.requires.within c.prepare-start.ensures c.requires.outputs (omega (arith, c.requires.exact.counts))

pub returns-clause-worked : goal.returns-clause-worked
returns-clause-worked c = record {
  clear = exact_clear _ _ _ c.requires.exact c.clear-2.ensures.counts c.clear-2.ensures.words c.clear-2.ensures.summary (omega arith) (omega arith) (omega arith);
  answered = run_answers c.args.query c.args.steps c.requires.within c.prepare-start.ensures c.run-last.ensures.answered;
}
