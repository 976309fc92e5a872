-- `check` goes down the verdict: each test that led to a refusal decides one of its choices.
use Prim.Native.Nat.{ℕ}
use mathlib.Core.Path.{◌≡◌, sym, ap, ◌∙◌}
use mathlib.Core.Bool.{true, not}
use mathlib.Core.Logic.{inl, inr}
use borrow.Author.Tests.{lt-ltb, le-ltb, ne_eqb}
use lib.Dec.{eqb}
use Rattle.base.specs.Pick.{pick}
use Rattle.rules.specs.Lists.{sum}
use Rattle.candidate_window.specs.Given.{verdict_of}
use Rattle.candidate_window.proofs.checks.check.Goals.{then-any_other, else-any_other}
use Rattle.candidate_window.proofs.checks.check.Goals as goal

pub returns-then-groups-gt-GROUPS : goal.returns-then-groups-gt-GROUPS
unfolding verdict_of pick
returns-then-groups-gt-GROUPS c =
    elim c.if-groups-gt-GROUPS.either [ inl t ↦ rw (sym c.any_above.ensures ∙ t) | inr t ↦ rw (sym c.any_above.ensures ∙ t.0, lt-ltb _ _ t.1) ]

pub returns-then-total-hits : goal.returns-then-total-hits
unfolding verdict_of pick
returns-then-total-hits c =
    let a = c.args in
    let few = c.if-groups-gt-GROUPS.false in
    let set = c.if-minimum-gt-MINIMUM.false in
    elim c.if-any_other.branch [
      | then-any_other w ↦
          rw (sym c.any_above.ensures ∙ few.0, le-ltb _ _ few.1, ne_eqb _ _ set.0, le-ltb _ _ set.1, sym c.any_other.ensures ∙ w.if-any_other.true)
      | else-any_other w ↦
          let other : not (eqb (sum a.groups.now) a.hits) ≡ true = ap (λ (n : ℕ). not (eqb n a.hits)) (sym w.total.ensures) ∙ sym w.value-is ∙ c.if-total-hits.true in
          rw (sym c.any_above.ensures ∙ few.0, le-ltb _ _ few.1, ne_eqb _ _ set.0, le-ltb _ _ set.1, sym c.any_other.ensures ∙ w.if-any_other.false, other)
    ]
