-- The contract of `script` determines its answer and every list that it was lent: two calls on the same lists end alike. Each field of the promise
-- is an equation with a definition of the input. Assumes nothing.
use mathlib.Core.Path.{◌≡◌, ap}
use mathlib.Core.List.{List}
use Prim.Native.Nat.{ℕ}
use Rattle.base.specs.Answers.{ScriptAnswer}
use Rattle.rules.specs.Script.{Script}
use Rattle.rules.specs.Calls.{ScriptLent, ScriptPromise}
use Rattle.rules.proofs.Unique.{script_unique}
use Rattle.script.specs.Given.{lent_of}

pub script_call_unique : (s : Script) (before : ScriptLent) {r r₂ : ScriptAnswer} {cs ws ss ps ts cs₂ ws₂ ss₂ ps₂ ts₂ : List ℕ}
    → ScriptPromise s r before (lent_of cs ws ss ps ts) → ScriptPromise s r₂ before (lent_of cs₂ ws₂ ss₂ ps₂ ts₂)
    → (r ≡ r₂) × (cs ≡ cs₂) × (ws ≡ ws₂) × (ss ≡ ss₂) × (ps ≡ ps₂) × (ts ≡ ts₂)
script_call_unique s before {r} {r₂} p q =
    let u = script_unique s r r₂ before _ _ p q in
    (u.0, ap (λ (b : ScriptLent). b.counts) u.1, ap (λ (b : ScriptLent). b.words) u.1, ap (λ (b : ScriptLent). b.summary) u.1, ap (λ (b : ScriptLent). b.pivots) u.1, ap (λ (b : ScriptLent). b.shareds) u.1)
