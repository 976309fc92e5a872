-- The Rust's `insert_ref` and `delete_ref`, as `insert_ref` and `delete_ref`, keep the union's k-th smallest as the pivot and the shared count through it:
-- each of their branches is one of the four kinds of step in proofs/Ranks, and the neighbour that a step looks for is there.
use mathlib.Core.Path.{◌≡◌, refl, sym, ap, ◌∙◌, subst}
use mathlib.Core.Logic.{⊎_elim}
use mathlib.Core.Bool.{Bool, true, false, ◌&&◌, ◌||◌}
use mathlib.Core.List.{List}
use Prim.Native.Nat.{ℕ, zero, suc, ◌+◌, ◌-◌, ◌≤◌, ◌<◌, min, max}
use native.Mathlib.Decide.{ℕ_discrete}
use native.Mathlib.Omega.{arith}
use lib.Dec.{ltb, leb, eqb}
use lib.ListN.{length, get_or, set, length-set, get_or-eq_default}
use lib.Seq.{get_or-set_same, get_or-set_other, set-get_or}
use borrow.Author.Tests.{ltb-true, ltb-false, leb-true, leb-false, eqb-true, eqb-false}
use Rattle.base.specs.Pick.{pick}
use Rattle.base.specs.Nearest.{LastBelow, NoneBelow, FirstFrom}
use Rattle.base.specs.Counting.{Same, Bump}
use Rattle.base.proofs.Checks.{pick-le}
use Rattle.std.proofs.lemmas.Bool.{cases_lt}
use Rattle.base.proofs.Nearest.{last_same, first_same}
use Rattle.base.proofs.Counting.{count_next}
use Rattle.rules.specs.Moves.{Slide, in_query, is_active, in_union, is_shared, before, first_from, after, insert_shared, insert_other, insert_ref, delete_shared, delete_other, delete_ref, moved}
use Rattle.rules.specs.Script.{stepped}
use Rattle.rules.specs.Ranks.{either, both, PivotAt, mark, has, size, Slid}
use Rattle.rules.proofs.Ranks.{in_query_union, in_query_meet, out_query_union, out_query_meet, at_same, shared_more, shared_kept, shared_less, shared_kept_less, above_in, above_out, down_some, down, up_some, up}

-- ---- flags and tests as numbers

pub mark-le : (ms : List Bool) (i : ℕ) → mark ms i ≤ 1
unfolding mark
mark-le ms i = pick-le (get_or ms i false)

pub has-le : (cs : List ℕ) (i : ℕ) → has cs i ≤ 1
unfolding has
has-le cs i = omega arith

pub mark_past : (ms : List Bool) (i : ℕ) → length ms ≤ i → mark ms i ≡ 0
unfolding mark pick
mark_past ms i h = rw (get_or-eq_default ms false h)

pub has_past : (cs : List ℕ) (i : ℕ) → length cs ≤ i → has cs i ≡ 0
unfolding has
has_past cs i h = rw (get_or-eq_default cs 0 h)

pub or_bit : (a b : Bool) → pick (a || b) 1 0 ≡ max (pick a 1 0) (pick b 1 0)
unfolding pick
or_bit true true = refl
or_bit true false = refl
or_bit false true = refl
or_bit false false = refl

pub and_bit : (a b : Bool) → pick (a && b) 1 0 ≡ min (pick a 1 0) (pick b 1 0)
unfolding pick
and_bit true true = refl
and_bit true false = refl
and_bit false true = refl
and_bit false false = refl

pub active_bit : (cs : List ℕ) (i : ℕ) → pick (is_active cs i) 1 0 ≡ has cs i
unfolding is_active has pick
active_bit cs i = go (ltb 0 (get_or cs i 0)) refl
  where
    go : (b : Bool) → ltb 0 (get_or cs i 0) ≡ b → pick b 1 0 ≡ min (get_or cs i 0) 1
    go true e = omega (arith, ltb-true 0 (get_or cs i 0) e)
    go false e = omega (arith, ltb-false 0 (get_or cs i 0) e)

-- the tests of the moves, as the sets of the working form
module _ (ms : List Bool) (cs : List ℕ) (i : ℕ) where
  pub union_bit : pick (in_union ms cs i) 1 0 ≡ either (mark ms) (has cs) i
  unfolding in_union in_query mark
  union_bit = or_bit (get_or ms i false) (is_active cs i) ∙ ap (λ (n : ℕ). max (pick (get_or ms i false) 1 0) n) (active_bit cs i)

  pub shared_bit_lem : pick (is_shared ms cs i) 1 0 ≡ both (mark ms) (has cs) i
  unfolding is_shared in_query mark
  shared_bit_lem = and_bit (get_or ms i false) (is_active cs i) ∙ ap (λ (n : ℕ). min (pick (get_or ms i false) 1 0) n) (active_bit cs i)

-- ---- the neighbours that the moves look for

-- the test as a set
abbrev set_of : (ℕ → Bool) → ℕ → ℕ
set_of test j = pick (test j) 1 0

pub before_last : (test : ℕ → Bool) (p : ℕ) → (NoneBelow (set_of test) p → ⊥) → LastBelow (set_of test) p (before test p)
unfolding before pick
before_last test zero some = absurd (some (λ j l. absurd (omega arith)))
before_last test (suc p) some = go (before_last test p) (test p) refl
  where
    none_more : NoneBelow (set_of test) p → set_of test p ≡ 0 → NoneBelow (set_of test) (suc p)
    none_more none e j l = ⊎_elim (λ (m : j < p). none j m) (λ (m : p ≤ j). let q : p ≡ j = omega arith in subst (λ (n : ℕ). set_of test n ≡ 0) q e) (cases_lt j p)

    go : ((NoneBelow (set_of test) p → ⊥) → LastBelow (set_of test) p (before test p)) → (b : Bool) → test p ≡ b → LastBelow (set_of test) (suc p) (pick b p (before test p))
    go rest true e = record { below = omega arith; on = rw e; off = λ j l m. absurd (omega arith) }
    go rest false e =
        let zero_here : set_of test p ≡ 0 = rw e in
        let r = rest (λ none. some (none_more none zero_here)) in
        record {
          below = omega (arith, r.below);
          on = r.on;
          off = λ j l m. ⊎_elim (λ (x : j < p). r.off j l x) (λ (x : p ≤ j). let q : p ≡ j = omega arith in subst (λ (n : ℕ). set_of test n ≡ 0) q zero_here) (cases_lt j p);
        }

first_first : (test : ℕ → Bool) (s n : ℕ) → (((j : ℕ) → s ≤ j → j < s + n → set_of test j ≡ 0) → ⊥) → FirstFrom (set_of test) s (first_from test s n)
unfolding first_from pick
first_first test s zero some = absurd (some (λ j l m. absurd (omega arith)))
first_first test s (suc n) some = go (first_first test (s + 1) n) (test s) refl
  where
    go : ((((j : ℕ) → s + 1 ≤ j → j < s + 1 + n → set_of test j ≡ 0) → ⊥) → FirstFrom (set_of test) (s + 1) (first_from test (s + 1) n)) → (b : Bool) → test s ≡ b
        → FirstFrom (set_of test) s (pick b s (first_from test (s + 1) n))
    go rest true e = record { from = omega arith; on = rw e; off = λ j l m. absurd (omega arith) }
    go rest false e =
        let zero_here : set_of test s ≡ 0 = rw e in
        let here : (j : ℕ) → s ≤ j → j ≤ s → set_of test j ≡ 0 = λ j l m. let q : s ≡ j = omega arith in subst (λ (x : ℕ). set_of test x ≡ 0) q zero_here in
        let r =
        rest
        (λ none. some (λ j l m. ⊎_elim (λ (x : s < j). none j (omega arith) (omega arith)) (λ (x : j ≤ s). here j l x) (cases_lt s j))) in
        record {
          from = omega (arith, r.from);
          on = r.on;
          off = λ j l m. ⊎_elim (λ (x : s < j). r.off j (omega arith) m) (λ (x : j ≤ s). here j l x) (cases_lt s j);
        }

pub after_first : (test : ℕ → Bool) (p n : ℕ) → p < n → (((j : ℕ) → p + 1 ≤ j → j < n → set_of test j ≡ 0) → ⊥) → FirstFrom (set_of test) (p + 1) (after test p n)
unfolding after
after_first test p n h some = first_first test (p + 1) (n - (p + 1)) (λ none. some (λ j l m. none j l (omega arith)))

-- ---- a count that changes

pub raise : (cs : List ℕ) (i v : ℕ) → i < length cs → get_or cs i 0 ≡ 0 → 0 < v → Bump (has cs) (has (set cs i v)) i
unfolding has
raise cs i v h e p = record {
  here = rw (get_or-set_same cs i v 0 h, e) (omega arith);
  else = λ j n. rw (get_or-set_other cs i j v 0 n);
}

pub lower : (cs : List ℕ) (i v : ℕ) → i < length cs → 0 < get_or cs i 0 → v ≡ 0 → Bump (has (set cs i v)) (has cs) i
unfolding has
lower cs i v h e p = record {
  here = rw (get_or-set_same cs i v 0 h, p) (omega arith);
  else = λ j n. rw (get_or-set_other cs i j v 0 n);
}

pub level : (cs : List ℕ) (i v : ℕ) → i < length cs → 0 < get_or cs i 0 → 0 < v → Same (has cs) (has (set cs i v))
unfolding has
level cs i v h e p j = go (ℕ_discrete j i)
  where
    go : Dec (j ≡ i) → min (get_or (set cs i v) j 0) 1 ≡ min (get_or cs j 0) 1
    go (yes q) = rw (q, get_or-set_same cs i v 0 h) (omega arith)
    go (no n) = rw (get_or-set_other cs i j v 0 n)

-- ---- the moves

-- the union and the shared numbers of a state's counts
abbrev u : List Bool → List ℕ → ℕ → ℕ
u ms cs = either (mark ms) (has cs)

abbrev h : List Bool → List ℕ → ℕ → ℕ
h ms cs = both (mark ms) (has cs)

abbrev Piv : List Bool → List ℕ → ℕ → ℕ → Type 0
Piv ms cs p s = PivotAt (u ms cs) (h ms cs) (size ms) p s

slid_of : (ms : List Bool) (cs : List ℕ) (p s : ℕ) → length cs ≡ length ms → Piv ms cs p s → Slid ms (record { counts = cs; pivot = p; shared = s })
slid_of ms cs p s l a = record { lens = l; at = a }

slid_as : (ms : List Bool) (cs : List ℕ) (p s t : ℕ) → s ≡ t → Slid ms (record { counts = cs; pivot = p; shared = s }) → Slid ms (record { counts = cs; pivot = p; shared = t })
slid_as ms cs p s t e k = subst (λ (n : ℕ). Slid ms (record { counts = cs; pivot = p; shared = n })) e k

-- counts that are above 0 at the same places
level_at : (ms : List Bool) (cs ds : List ℕ) (p s : ℕ) → Same (has cs) (has ds) → Piv ms cs p s → Piv ms ds p s
level_at ms cs ds p s e a =
    at_same (u ms cs) (u ms ds) (h ms cs) (h ms ds) (size ms) p s (λ j. ap (λ (n : ℕ). max (mark ms j) n) (e j)) (λ j. ap (λ (n : ℕ). min (mark ms j) n) (e j)) a

under : (ms : List Bool) (cs : List ℕ) (j : ℕ) → h ms cs j ≤ u ms cs j
under ms cs j = omega arith

pub pivot_in : (ms : List Bool) (s : Slide) → Slid ms s → s.pivot < length ms
pivot_in ms s k =
    ⊎_elim (λ (l : s.pivot < length ms). l)
    (λ (l : length ms ≤ s.pivot). absurd (omega (arith, mark_past ms s.pivot l, has_past s.counts s.pivot (omega (arith, k.lens)), k.at.on)))
    (cases_lt s.pivot (length ms))

mark-true : (ms : List Bool) (i : ℕ) → in_query ms i ≡ true → mark ms i ≡ 1
unfolding mark in_query pick
mark-true ms i e = rw e

mark-false : (ms : List Bool) (i : ℕ) → in_query ms i ≡ false → mark ms i ≡ 0
unfolding mark in_query pick
mark-false ms i e = rw e

active_pos : (cs : List ℕ) (i : ℕ) → is_active cs i ≡ true → 0 < get_or cs i 0
unfolding is_active
active_pos cs i e = ltb-true 0 (get_or cs i 0) e

active_none : (cs : List ℕ) (i : ℕ) → is_active cs i ≡ false → get_or cs i 0 ≡ 0
unfolding is_active
active_none cs i e = omega (arith, ltb-false 0 (get_or cs i 0) e)

pub none_has : (cs : List ℕ) (i : ℕ) → get_or cs i 0 ≡ 0 → has cs i ≡ 0
unfolding has
none_has cs i e = omega arith

counts_either : (b : Bool) (x y : Slide) (cs : List ℕ) → x.counts ≡ cs → y.counts ≡ cs → (pick b x y).counts ≡ cs
unfolding pick
counts_either true x y cs e f = e
counts_either false x y cs e f = f

module _ (ms : List Bool) (s : Slide) (k : Slid ms s) (i : ℕ) (l : i < length ms) where
  abbrev raised : List ℕ
  raised = set s.counts i (get_or s.counts i 0 + 1)

  in_counts : i < length s.counts
  in_counts = omega (arith, k.lens)

  raised_lens : length raised ≡ length ms
  raised_lens = length-set s.counts i (get_or s.counts i 0 + 1) ∙ k.lens

  module _ (none : get_or s.counts i 0 ≡ 0) where
    up_one : Bump (has s.counts) (has raised) i
    up_one = raise s.counts i (get_or s.counts i 0 + 1) in_counts none (omega arith)

    off : has s.counts i ≡ 0
    off = none_has s.counts i none

    insert_shared_slid : in_query ms i ≡ true → Slid ms (insert_shared i raised s)
    unfolding insert_shared pick
    insert_shared_slid y = go (leb i s.pivot) refl
      where
        same : Same (u ms s.counts) (u ms raised)
        same = in_query_union (mark ms) (has s.counts) (has raised) i off up_one (mark-true ms i y)

        more : Bump (h ms s.counts) (h ms raised) i
        more = in_query_meet (mark ms) (has s.counts) (has raised) i off up_one (mark-true ms i y)

        go : (b : Bool) → leb i s.pivot ≡ b → Slid ms (record { counts = raised; pivot = s.pivot; shared = s.shared + pick b 1 0 })
        go true e =
            slid_of ms raised s.pivot (s.shared + 1) raised_lens
            (shared_more (u ms s.counts) (u ms raised) (h ms s.counts) (h ms raised) i (size ms) s.pivot s.shared same k.at more (leb-true i s.pivot e))
        go false e =
            slid_as ms raised s.pivot s.shared (s.shared + 0) (omega arith)
            (slid_of ms raised s.pivot s.shared raised_lens
            (shared_kept (u ms s.counts) (u ms raised) (h ms s.counts) (h ms raised) i (size ms) s.pivot s.shared same k.at more (leb-false i s.pivot e)))

    -- a hash outside the query comes in: the union has one number more, and the shared ones stay
    module _ (y : in_query ms i ≡ false) where
      more_out : Bump (u ms s.counts) (u ms raised) i
      more_out = out_query_union (mark ms) (has s.counts) (has raised) i off up_one (mark-false ms i y)

      same_out : Same (h ms s.counts) (h ms raised)
      same_out = out_query_meet (mark ms) (has s.counts) (has raised) i off up_one (mark-false ms i y)

      -- the pivot is in the union, and i was not
      apart : i ≤ s.pivot → i < s.pivot
      apart m =
          ⊎_elim (λ (x : i < s.pivot). x)
          (λ (x : s.pivot ≤ i). let q : s.pivot ≡ i = omega arith in absurd (omega (arith, subst (λ (n : ℕ). u ms s.counts n ≡ 1) q k.at.on, mark-false ms i y, off)))
          (cases_lt i s.pivot)

      -- the Rust's `expect`: the pivot has a predecessor
      pub insert_some : i ≤ s.pivot → NoneBelow (set_of (in_union ms raised)) s.pivot → ⊥
      insert_some m none =
          down_some (u ms s.counts) (u ms raised) (h ms s.counts) (h ms raised) i (size ms) s.pivot s.shared same_out k.at (under ms raised) more_out (apart m)
          (λ j n. sym (union_bit ms raised j) ∙ none j n)

      -- and the old pivot's share was counted
      pub insert_lost : h ms raised s.pivot ≤ s.shared
      insert_lost = omega (arith, same_out s.pivot, count_next (h ms s.counts) s.pivot, k.at.shared)

      insert_other_slid : Slid ms (insert_other ms i raised s)
      unfolding insert_other pick
      insert_other_slid = go (leb i s.pivot) refl
        where
          go : (b : Bool) → leb i s.pivot ≡ b → Slid ms
              (pick b (record {
                counts = raised;
                pivot = before (in_union ms raised) s.pivot;
                shared = s.shared - pick (is_shared ms raised s.pivot) 1 0;
              })
              (record { counts = raised; pivot = s.pivot; shared = s.shared }))
          go true e =
              let low = leb-true i s.pivot e in
              let prev =
              last_same (set_of (in_union ms raised)) (u ms raised) s.pivot (before (in_union ms raised) s.pivot) (λ j. sym (union_bit ms raised j))
              (before_last (in_union ms raised) s.pivot (insert_some low)) in
              rw (shared_bit_lem ms raised s.pivot, same_out s.pivot)
              (slid_of ms raised (before (in_union ms raised) s.pivot) (s.shared - h ms s.counts s.pivot) raised_lens
              (down (u ms s.counts) (u ms raised) (h ms s.counts) (h ms raised) i (size ms) s.pivot s.shared same_out k.at (under ms raised) more_out (apart low)
              (before (in_union ms raised) s.pivot) prev))
          go false e =
              slid_of ms raised s.pivot s.shared raised_lens
              (above_in (u ms s.counts) (u ms raised) (h ms s.counts) (h ms raised) i (size ms) s.pivot s.shared same_out k.at (under ms raised) more_out (leb-false i s.pivot e))

  pub insert_slid : Slid ms (insert_ref ms i s)
  unfolding insert_ref pick
  insert_slid = go (is_active s.counts i) refl (in_query ms i) refl
    where
      go : (b : Bool) → is_active s.counts i ≡ b → (c : Bool) → in_query ms i ≡ c → Slid ms
          (pick b (record { counts = raised; pivot = s.pivot; shared = s.shared }) (pick c (insert_shared i raised s) (insert_other ms i raised s)))
      go true e c d =
          slid_of ms raised s.pivot s.shared raised_lens
          (level_at ms s.counts raised s.pivot s.shared (level s.counts i (get_or s.counts i 0 + 1) in_counts (active_pos s.counts i e) (omega arith)) k.at)
      go false e true d = insert_shared_slid (active_none s.counts i e) d
      go false e false d = insert_other_slid (active_none s.counts i e) d

  pub insert_counts : (insert_ref ms i s).counts ≡ set s.counts i (get_or s.counts i 0 + 1)
  unfolding insert_ref insert_shared insert_other
  insert_counts =
      counts_either (is_active s.counts i) _ _ (set s.counts i (get_or s.counts i 0 + 1)) refl
      (counts_either (in_query ms i) _ _ (set s.counts i (get_or s.counts i 0 + 1)) refl
      (counts_either (leb i s.pivot) _ _ (set s.counts i (get_or s.counts i 0 + 1)) refl refl))

  abbrev lowered : List ℕ
  lowered = set s.counts i (get_or s.counts i 0 - 1)

  lowered_lens : length lowered ≡ length ms
  lowered_lens = length-set s.counts i (get_or s.counts i 0 - 1) ∙ k.lens

  lowered_here : get_or lowered i 0 ≡ get_or s.counts i 0 - 1
  lowered_here = get_or-set_same s.counts i (get_or s.counts i 0 - 1) 0 in_counts

  module _ (some : 0 < get_or s.counts i 0) (gone : get_or lowered i 0 ≡ 0) where
    down_one : Bump (has lowered) (has s.counts) i
    down_one = lower s.counts i (get_or s.counts i 0 - 1) in_counts some (sym lowered_here ∙ gone)

    off' : has lowered i ≡ 0
    off' = none_has lowered i gone

    delete_shared_slid : in_query ms i ≡ true → Slid ms (delete_shared i lowered s)
    unfolding delete_shared pick
    delete_shared_slid y = go (leb i s.pivot) refl
      where
        same : Same (u ms s.counts) (u ms lowered)
        same j = sym (in_query_union (mark ms) (has lowered) (has s.counts) i off' down_one (mark-true ms i y) j)

        less : Bump (h ms lowered) (h ms s.counts) i
        less = in_query_meet (mark ms) (has lowered) (has s.counts) i off' down_one (mark-true ms i y)

        go : (b : Bool) → leb i s.pivot ≡ b → Slid ms (record { counts = lowered; pivot = s.pivot; shared = s.shared - pick b 1 0 })
        go true e =
            slid_of ms lowered s.pivot (s.shared - 1) lowered_lens
            (shared_less (u ms s.counts) (u ms lowered) (h ms s.counts) (h ms lowered) i (size ms) s.pivot s.shared same k.at less (leb-true i s.pivot e))
        go false e =
            slid_as ms lowered s.pivot s.shared (s.shared - 0) (omega arith)
            (slid_of ms lowered s.pivot s.shared lowered_lens
            (shared_kept_less (u ms s.counts) (u ms lowered) (h ms s.counts) (h ms lowered) i (size ms) s.pivot s.shared same k.at less (leb-false i s.pivot e)))

    -- a hash outside the query goes: the union has one number less, and the shared ones stay
    module _ (y : in_query ms i ≡ false) where
      less_out : Bump (u ms lowered) (u ms s.counts) i
      less_out = out_query_union (mark ms) (has lowered) (has s.counts) i off' down_one (mark-false ms i y)

      still_out : Same (h ms s.counts) (h ms lowered)
      still_out j = sym (out_query_meet (mark ms) (has lowered) (has s.counts) i off' down_one (mark-false ms i y) j)

      -- past the coordinates the union is empty
      beyond : (j : ℕ) → length lowered ≤ j → u ms lowered j ≡ 0
      beyond j m = omega (arith, mark_past ms j (omega (arith, lowered_lens)), has_past lowered j m)

      -- the Rust's `expect`: the pivot has a successor
      pub delete_some : i ≤ s.pivot → ((j : ℕ) → s.pivot + 1 ≤ j → j < length lowered → set_of (in_union ms lowered) j ≡ 0) → ⊥
      unfolding size
      delete_some low none =
          up_some (u ms s.counts) (u ms lowered) (h ms s.counts) (h ms lowered) i (size ms) s.pivot s.shared still_out k.at (under ms lowered) less_out low
          (mark ms) (length ms) (λ j. omega arith) (pivot_in ms s k) refl
          (λ j m. ⊎_elim (λ (x : j < length lowered). sym (union_bit ms lowered j) ∙ none j m x) (λ (x : length lowered ≤ j). beyond j x) (cases_lt j (length lowered)))

      delete_other_slid : Slid ms (delete_other ms i lowered s)
      unfolding delete_other pick
      delete_other_slid = go (leb i s.pivot) refl
        where
          next : ℕ
          next = after (in_union ms lowered) s.pivot (length lowered)

          go : (b : Bool) → leb i s.pivot ≡ b → Slid ms
              (pick b (record { counts = lowered; pivot = next; shared = s.shared + pick (is_shared ms lowered next) 1 0 })
              (record { counts = lowered; pivot = s.pivot; shared = s.shared }))
          go true e =
              let low = leb-true i s.pivot e in
              let first =
              first_same (set_of (in_union ms lowered)) (u ms lowered) (s.pivot + 1) next (λ j. sym (union_bit ms lowered j))
              (after_first (in_union ms lowered) s.pivot (length lowered) (omega (arith, pivot_in ms s k, lowered_lens)) (delete_some low)) in
              rw (shared_bit_lem ms lowered next)
              (slid_of ms lowered next (s.shared + h ms lowered next) lowered_lens
              (up (u ms s.counts) (u ms lowered) (h ms s.counts) (h ms lowered) i (size ms) s.pivot s.shared still_out k.at (under ms lowered) less_out low next first))
          go false e =
              slid_of ms lowered s.pivot s.shared lowered_lens
              (above_out (u ms s.counts) (u ms lowered) (h ms s.counts) (h ms lowered) i (size ms) s.pivot s.shared still_out k.at (under ms lowered) less_out (leb-false i s.pivot e))

  positive : eqb (get_or s.counts i 0) 0 ≡ false → 0 < get_or s.counts i 0
  positive e = omega (arith, eqb-false (get_or s.counts i 0) 0 e)

  pub delete_slid : Slid ms (delete_ref ms i s)
  unfolding delete_ref pick
  delete_slid = go (eqb (get_or s.counts i 0) 0) refl (is_active lowered i) refl (in_query ms i) refl
    where
      go : (a : Bool) → eqb (get_or s.counts i 0) 0 ≡ a → (b : Bool) → is_active lowered i ≡ b → (c : Bool) → in_query ms i ≡ c → Slid ms
          (pick a s (pick b (record { counts = lowered; pivot = s.pivot; shared = s.shared }) (pick c (delete_shared i lowered s) (delete_other ms i lowered s))))
      go true e b d c f = k
      go false e true d c f =
          slid_of ms lowered s.pivot s.shared lowered_lens
          (level_at ms s.counts lowered s.pivot s.shared
          (level s.counts i (get_or s.counts i 0 - 1) in_counts (omega (arith, active_pos lowered i d, lowered_here)) (omega (arith, active_pos lowered i d, lowered_here))) k.at)
      go false e false d true f = delete_shared_slid (positive e) (active_none lowered i d) f
      go false e false d false f = delete_other_slid (positive e) (active_none lowered i d) f

  pub delete_counts : (delete_ref ms i s).counts ≡ set s.counts i (get_or s.counts i 0 - 1)
  unfolding delete_ref delete_shared delete_other pick
  delete_counts = go (eqb (get_or s.counts i 0) 0) refl
    where
      less : List ℕ
      less = set s.counts i (get_or s.counts i 0 - 1)

      rest : (pick (is_active less i) (record { counts = less; pivot = s.pivot; shared = s.shared }) (pick (in_query ms i) (delete_shared i less s) (delete_other ms i less s))).counts ≡ less
      rest = counts_either (is_active less i) _ _ less refl (counts_either (in_query ms i) _ _ less refl (counts_either (leb i s.pivot) _ _ less refl refl))

      go : (b : Bool) → eqb (get_or s.counts i 0) 0 ≡ b
          → (pick b s (pick (is_active less i) (record { counts = less; pivot = s.pivot; shared = s.shared }) (pick (in_query ms i) (delete_shared i less s) (delete_other ms i less s)))).counts ≡ less
      go true e = sym (ap (λ (n : ℕ). set s.counts i n) (omega (arith, eqb-true (get_or s.counts i 0) 0 e)) ∙ set-get_or s.counts i 0)
      go false e = rest

  -- a step of a script, by moves: the counts are stepped, and the pivot and the shared count are kept
  pub moved_slid : (kind : ℕ) → Slid ms (moved ms kind i s)
  unfolding moved pick
  moved_slid kind = go (eqb kind 1)
    where
      go : (b : Bool) → Slid ms (pick b (insert_ref ms i s) (delete_ref ms i s))
      go true = insert_slid
      go false = delete_slid

  pub moved-counts : (kind : ℕ) → (moved ms kind i s).counts ≡ stepped kind i s.counts
  unfolding moved stepped pick
  moved-counts kind = go (eqb kind 1)
    where
      go : (b : Bool) → (pick b (insert_ref ms i s) (delete_ref ms i s)).counts ≡ set s.counts i (pick b (get_or s.counts i 0 + 1) (get_or s.counts i 0 - 1))
      go true = insert_counts
      go false = delete_counts
