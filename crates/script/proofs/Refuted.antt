-- Wrong scripts that the contract of `script` refuses, each at a row of the table: there the promise's answer, or a lent list, is a value that
-- computes, and the wrong program's is another. One that refuses all, one that does nothing to its outputs, and one that repeats its first answer are
-- refuted in `rules`. Assumes nothing.
use Prim.Native.Nat.{ℕ}
use mathlib.Core.Path.{◌≡◌, refl, sym, ap, ◌∙◌}
use mathlib.Core.List.{[], ◌∷◌}
use native.Mathlib.Omega.{arith}
use lib.ListN.{get_or}
use Rattle.std.specs.Prelude.{Err}
use Rattle.base.specs.declared.Reason.{Reason}
use Rattle.base.specs.Answers.{ScriptAnswer}
use Rattle.rules.specs.Script.{Script}
use Rattle.rules.specs.Told.{Told}
use Rattle.rules.specs.Calls.{ScriptLent, ScriptPromise}
use Rattle.rules.specs.Computes.{computes}
use Rattle.rules.specs.Examples.{script_a, empty_script}
use Rattle.rules.proofs.Refuted.{value, ones_a, work_unzeroed}

-- one fixed answer: script A ends at 2/0, the empty script at 3/0
pub script_one_answer : (r : ScriptAnswer) (a b : ScriptLent) → ScriptPromise script_a r ones_a a → ScriptPromise empty_script r ones_a b → ⊥
unfolding computes
script_one_answer r a b p q = let e : ◌≡◌ {A = ℕ} 2 3 = ap (value 0) (sym p.answer ∙ q.answer) in omega (arith, e)

-- outputs stored one late: the first step's answer is not at the front
pub script_one_late : (r : ScriptAnswer) (after : ScriptLent) → get_or after.pivots 0 0 ≡ 9 → ScriptPromise script_a r ones_a after → ⊥
unfolding computes
script_one_late r after late p = let e : ◌≡◌ {A = ℕ} 9 3 = sym late ∙ ap (λ xs. get_or xs 0 0) p.left.pivots in omega (arith, e)

-- work left unzeroed
pub script_leaves_work : (r : ScriptAnswer) (after : ScriptLent) → after.counts ≡ ones_a.counts → ScriptPromise script_a r ones_a after → ⊥
unfolding computes
script_leaves_work r after kept p = work_unzeroed 5 _ p.left.counts (omega arith) refl kept

-- another place: the query 40, 20 is refused at 1, the later of the two
abbrev descending : Script
descending = record { query = 40 ∷ 20 ∷ []; coords = 10 ∷ 20 ∷ 30 ∷ 40 ∷ 50 ∷ []; indexes = []; kinds = [] }

pub script_other_place : (reason : Reason) (after : ScriptLent) → ScriptPromise descending (Err (record { reason = reason; place = 0 })) ones_a after → ⊥
unfolding computes
script_other_place reason after p = let e : ◌≡◌ {A = ℕ} 0 1 = ap (λ (t : Told). t.place) p.answer in omega (arith, e)
