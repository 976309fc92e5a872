-- `check_orders` goes down `script_orders`, where the first wrong place of each list is the one that the loop found.
use mathlib.Core.Path.{◌≡◌, sym}
use lib.ListN.{length}
use borrow.Author.Tests.{eqb-true}
use Rattle.base.proofs.Checks.{checks}
use Rattle.script.proofs.checks.check_orders.Goals as goal

pub returns-then-is_empty : goal.returns-then-is_empty
returns-then-is_empty c = let none : length c.args.query.now ≡ 0 = eqb-true _ _ (sym c.if-is_empty.ensures) in (search checks depth 40)

pub returns-then-i-query : goal.returns-then-i-query
returns-then-i-query c = simp (← c.first_not_above-i.ensures) (search checks depth 40)

pub returns-then-j-coords : goal.returns-then-j-coords
returns-then-j-coords c = simp (← c.first_not_above-j.ensures, ← c.first_not_above-i.ensures) (search checks depth 40)

pub returns : goal.returns
returns c = simp (← c.first_not_above-j.ensures, ← c.first_not_above-i.ensures) (search checks depth 40)
