-- Which ranges are early nones, by the tests that the work makes in turn. Assumes nothing.
use mathlib.Core.Path.{◌≡◌, refl}
use mathlib.Core.Bool.{true, false, or-true}
use Prim.Native.Nat.{ℕ, ◌+◌, ◌≤◌, ◌<◌}
use native.Mathlib.Omega.{arith}
use lib.ListN.{length}
use borrow.Author.Tests.{eq-eqb, ne_eqb}
use Rattle.rules.specs.Sweep.{Sweep}
use Rattle.rules.specs.Minimizer.{windows_per_start, local_items}
use Rattle.rules.specs.Place.{minimizer_early}
use Rattle.keys.specs.Lists.{below}
use Rattle.sweep.specs.declared.Found.{Found}
use Rattle.minimizer_work.specs.Work.{Ready, Task, Done, Late}
use Rattle.minimizer_work.proofs.Working.{local_many}

module _ (s : Sweep) where
  pub early_windows : windows_per_start s ≡ 0 → minimizer_early s ≡ true
  unfolding minimizer_early
  early_windows e = rw (eq-eqb (windows_per_start s) 0 e)

  pub early_query : length s.query ≡ 0 → minimizer_early s ≡ true
  unfolding minimizer_early
  early_query e = rw (eq-eqb (length s.query) 0 e, or-true)

  early_items : length (local_items s) ≡ 0 → minimizer_early s ≡ true
  unfolding minimizer_early
  early_items e = rw (eq-eqb (length (local_items s)) 0 e, or-true)

  pub early_local : Ready s.query s.hashes s.starts → below (s.range.end + s.settings.length) s.starts ≤ below s.range.start s.starts → minimizer_early s ≡ true
  early_local r l = early_items (omega (arith, local_many s r (below s.range.start s.starts) (below (s.range.end + s.settings.length) s.starts) refl refl))

  late : 0 < windows_per_start s → 0 < length s.query → 0 < length (local_items s) → minimizer_early s ≡ false
  unfolding minimizer_early
  late w k n =
      rw (ne_eqb (windows_per_start s) 0 (λ e. absurd (omega (arith, e))), ne_eqb (length s.query) 0 (λ e. absurd (omega (arith, e))), ne_eqb (length (local_items s)) 0 (λ e. absurd (omega (arith, e))))

  pub late_told : {from to : ℕ} → Task s from to → {r : Found} → Done s r → Late s r
  late_told {from} {to} t d = record {
    windows = t.windows;
    late = late t.windows t.hash (omega (arith, local_many s t.ready from to t.bounds.begins t.bounds.ends, t.bounds.item));
    done = d;
  }
