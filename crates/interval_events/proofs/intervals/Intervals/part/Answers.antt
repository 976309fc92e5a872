-- A part of the intervals keeps what is known of all.
use mathlib.Core.Path.{◌≡◌}
use mathlib.Core.Logic.{⊎_elim}
use mathlib.Core.List.{List}
use Prim.Native.Nat.{ℕ, ◌+◌, ◌-◌, ◌^◌, ◌≤◌, ◌<◌}
use native.Mathlib.Omega.{arith}
use lib.ListN.{length, get_or, take, drop, get_or-eq_default, length-take, length-drop}
use lib.Seq.{get_or-drop}
use Rattle.std.proofs.Common.{get_or-take}
use Rattle.base.proofs.Lists.{asc_take, asc_drop}
use Rattle.std.proofs.lemmas.Bool.{cases_lt}
use Rattle.interval_events.proofs.intervals.Intervals.part.Goals as goal

near : (n from : ℕ) (xs : List ℕ) → ((i : ℕ) → get_or xs i 0 < 2 ^ 32) → (i : ℕ) → get_or (take n (drop from xs)) i 0 < 2 ^ 32
near n from xs h i =
    ⊎_elim (λ (l : i < n). omega (arith, get_or-take n (drop from xs) i 0 l, get_or-drop from xs i 0, h (from + i)))
    (λ (l : n ≤ i). omega (arith, get_or-eq_default (take n (drop from xs)) 0 {n = i} (omega (arith, length-take n (drop from xs))))) (cases_lt i n)

long : (n from : ℕ) (xs ys : List ℕ) → length xs ≡ length ys → length (take n (drop from xs)) ≡ length (take n (drop from ys))
long n from xs ys e = omega (arith, length-take n (drop from xs), length-drop from xs, length-take n (drop from ys), length-drop from ys)

pub invariant_of-result : goal.invariant_of-result
invariant_of-result c =
    let s = c.args.self in
    let from = c.args.from in
    let n = c.args.to - from in
    record {
      same_starts = long n from s.starts.now s.hashes.now s.same_starts;
      same_ends = long n from s.ends.now s.hashes.now s.same_ends;
      asc = asc_take n (drop from s.starts.now) (asc_drop from s.starts.now s.asc);
      near_starts = near n from s.starts.now s.near_starts;
      near_ends = near n from s.ends.now s.near_ends;
    }
