-- What `insert_ref` and `delete_ref` give in each of their cases: their tests, answered.
use mathlib.Core.Path.{◌≡◌}
use mathlib.Core.Logic.{◌≢◌}
use mathlib.Core.Bool.{Bool, true, false}
use mathlib.Core.List.{List}
use Prim.Native.Nat.{ℕ, ◌+◌, ◌-◌, ◌≤◌, ◌<◌}
use native.Mathlib.Omega.{arith}
use lib.Dec.{ltb, eqb}
use lib.ListN.{length, get_or, set}
use borrow.Author.Tests.{lt-ltb, le-ltb, le-leb, lt-leb, eq-eqb, ne_eqb}
use Rattle.base.specs.Pick.{pick}
use Rattle.rules.specs.Moves.{Slide, in_query, is_active, in_union, is_shared, before, after, insert_shared, insert_other, insert_ref, delete_shared, delete_other, delete_ref}

-- the state with these counts, this pivot and this shared count
abbrev pub state : List ℕ → ℕ → ℕ → Slide
state cs p s = record { counts = cs; pivot = p; shared = s }

module _ (ms : List Bool) (i : ℕ) (s : Slide) where
  abbrev raised : List ℕ
  raised = set s.counts i (get_or s.counts i 0 + 1)

  abbrev lowered : List ℕ
  lowered = set s.counts i (get_or s.counts i 0 - 1)

  -- an insert where the hash was active already
  pub insert_again : 0 < get_or s.counts i 0 → insert_ref ms i s ≡ state raised s.pivot s.shared
  unfolding insert_ref is_active pick
  insert_again e = rw (lt-ltb 0 (get_or s.counts i 0) e)

  -- a first insert
  module _ (none : get_or s.counts i 0 ≡ 0) where
    still : ltb 0 (get_or s.counts i 0) ≡ false
    still = le-ltb 0 (get_or s.counts i 0) (omega arith)

    pub insert_query_low : get_or ms i false ≡ true → i ≤ s.pivot → insert_ref ms i s ≡ state raised s.pivot (s.shared + 1)
    unfolding insert_ref is_active in_query insert_shared pick
    insert_query_low y l = rw (still, y, le-leb i s.pivot l)

    pub insert_query_high : get_or ms i false ≡ true → s.pivot < i → insert_ref ms i s ≡ state raised s.pivot (s.shared + 0)
    unfolding insert_ref is_active in_query insert_shared pick
    insert_query_high y l = rw (still, y, lt-leb i s.pivot l)

    pub insert_other_low : get_or ms i false ≡ false → i ≤ s.pivot
        → insert_ref ms i s ≡ state raised (before (in_union ms raised) s.pivot) (s.shared - pick (is_shared ms raised s.pivot) 1 0)
    unfolding insert_ref is_active in_query insert_other pick
    insert_other_low y l = rw (still, y, le-leb i s.pivot l)

    pub insert_other_high : get_or ms i false ≡ false → s.pivot < i → insert_ref ms i s ≡ state raised s.pivot s.shared
    unfolding insert_ref is_active in_query insert_other pick
    insert_other_high y l = rw (still, y, lt-leb i s.pivot l)

  -- a delete at count 0
  pub delete_none : get_or s.counts i 0 ≡ 0 → delete_ref ms i s ≡ s
  unfolding delete_ref pick
  delete_none e = rw (eq-eqb (get_or s.counts i 0) 0 e)

  -- a delete that leaves some
  module _ (some : get_or s.counts i 0 ≢ 0) where
    there : eqb (get_or s.counts i 0) 0 ≡ false
    there = ne_eqb (get_or s.counts i 0) 0 some

    pub delete_again : 0 < get_or lowered i 0 → delete_ref ms i s ≡ state lowered s.pivot s.shared
    unfolding delete_ref is_active pick
    delete_again e = rw (there, lt-ltb 0 (get_or lowered i 0) e)

    -- the last delete
    module _ (gone : get_or lowered i 0 ≡ 0) where
      off : ltb 0 (get_or lowered i 0) ≡ false
      off = le-ltb 0 (get_or lowered i 0) (omega arith)

      pub delete_query_low : get_or ms i false ≡ true → i ≤ s.pivot → delete_ref ms i s ≡ state lowered s.pivot (s.shared - 1)
      unfolding delete_ref is_active in_query delete_shared pick
      delete_query_low y l = rw (there, off, y, le-leb i s.pivot l)

      pub delete_query_high : get_or ms i false ≡ true → s.pivot < i → delete_ref ms i s ≡ state lowered s.pivot (s.shared - 0)
      unfolding delete_ref is_active in_query delete_shared pick
      delete_query_high y l = rw (there, off, y, lt-leb i s.pivot l)

      pub delete_other_low : get_or ms i false ≡ false → i ≤ s.pivot
          → delete_ref ms i s ≡ state lowered (after (in_union ms lowered) s.pivot (length lowered)) (s.shared + pick (is_shared ms lowered (after (in_union ms lowered) s.pivot (length lowered))) 1 0)
      unfolding delete_ref is_active in_query delete_other pick
      delete_other_low y l = rw (there, off, y, le-leb i s.pivot l)

      pub delete_other_high : get_or ms i false ≡ false → s.pivot < i → delete_ref ms i s ≡ state lowered s.pivot s.shared
      unfolding delete_ref is_active in_query delete_other pick
      delete_other_high y l = rw (there, off, y, lt-leb i s.pivot l)
