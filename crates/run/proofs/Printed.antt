-- `run` never says `none` of what it did not read, over its contract: the printed bytes are the first r of the output, and these are the rules'. Assumes nothing.
use Prim.Native.Nat.{ℕ}
use mathlib.Core.Path.{◌≡◌, refl, sym, ap, ◌∙◌}
use mathlib.Core.Bool.{Bool, false}
use mathlib.Core.List.{List}
use lib.ListN.{length, take}
use lib.Seq.{take_at}
use Rattle.rules.specs.Job.{read}
use Rattle.rules.specs.Lines.{said}
use Rattle.rules.specs.Calls.{RunPromise}
use Rattle.rules.proofs.Printed.{BeginsNone, ReadAndNone}
use Rattle.rules.proofs.Printed as rules

module _ (failed : Bool) (job : List ℕ) (r : ℕ) (out out' : List ℕ) (p : RunPromise failed job r out out') where
  -- the printed bytes are those of the rules
  pub printed_is : take r out' ≡ said failed job
  printed_is = ap (λ (n : ℕ). take n out') p.count ∙ ap (take (length (said failed job))) p.written ∙ take_at (said failed job) _ (length (said failed job)) refl

  -- if they begin with `none`, reading did not fail, the reader accepted every byte, and the rules' answer is none
  pub none_means_read : BeginsNone (take r out') → (failed ≡ false) × ReadAndNone (read job)
  none_means_read e = rules.none_means_read failed job (sym (ap (take 4) printed_is) ∙ e)
