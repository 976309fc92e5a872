-- `answer` goes by the early nones in their order, then works and places.
use mathlib.Core.Path.{refl, sym, ◌∙◌}
use native.Mathlib.Omega.{arith}
use borrow.Author.Tests.{eqb-true, eqb-false}
use Rattle.rules.specs.Sweep.{Sweep}
use Rattle.interval_work.specs.Work.{Found}
use Rattle.interval_sweep.specs.Given.{asked}
use Rattle.interval_sweep.proofs.Answering.{early_short, early_empty, early_reversed, late_placed, late_fits}
use Rattle.interval_sweep.proofs.answer.answer.Goals.{then-settings-via-then-settings, then-settings-via-else-settings+then-is_empty, then-settings-via-else-settings+else-is_empty+then-range}
use Rattle.interval_sweep.proofs.answer.answer.Goals as goal

pub returns-then-settings-clause-answer : goal.returns-then-settings-clause-answer
returns-then-settings-clause-answer c =
    let s : Sweep = asked c.args.input c.args.range c.args.minimum in
    elim c.then-settings.branch [
      | then-settings-via-then-settings w ↦ c.early.ensures ∙ early_short s w.if-settings.true
      | then-settings-via-else-settings+then-is_empty w ↦ c.early.ensures ∙ early_empty s w.if-settings.false (eqb-true _ _ (sym w.is_empty.ensures ∙ w.if-is_empty.true))
      | then-settings-via-else-settings+else-is_empty+then-range w ↦ c.early.ensures ∙ early_reversed s w.if-settings.false (eqb-false _ _ (sym w.is_empty.ensures ∙ w.if-is_empty.false)) w.if-range.true
    ]

pub place-requires : goal.place-requires
place-requires c =
    let i = c.args.input in
    let s : Sweep = asked i c.args.range c.args.minimum in
    let found : Found s c.work-swept.result = c.work-swept.ensures.found s (record { query_is = refl; hashes_are = refl; starts_are = refl; ends_are = refl; settings_are = refl; range_is = refl }) in
    let some = eqb-false _ _ (sym c.is_empty.ensures ∙ c.if-is_empty.false) in
    record {
      forward = c.if-range.false;
      fits = late_fits s c.if-settings.false some c.if-range.false c.work-swept.result found (omega (arith, i.kmer_is, c.if-settings.false)) i.few_hashes i.few_items i.entries i.same_table (omega arith);
    }

pub returns-clause-answer : goal.returns-clause-answer
returns-clause-answer c =
    let s : Sweep = asked c.args.input c.args.range c.args.minimum in
    let found : Found s c.work-swept.result = c.work-swept.ensures.found s (record { query_is = refl; hashes_are = refl; starts_are = refl; ends_are = refl; settings_are = refl; range_is = refl }) in
    let some = eqb-false _ _ (sym c.is_empty.ensures ∙ c.if-is_empty.false) in
    c.place.ensures ∙ late_placed c.args.input c.args.range c.args.minimum c.if-settings.false some c.if-range.false c.work-swept.result found
