-- `insert_ref` is the rules' `insert_ref`: the bit is set in every case, each branch is a case of proofs/State, and the search before the pivot
-- finds one.
use mathlib.Core.Path.{◌≡◌, subst}
use mathlib.Core.List.{List}
use Prim.Native.Nat.{ℕ, ◌+◌}
use native.Mathlib.Omega.{arith}
use lib.ListN.{get_or, length-set}
use Rattle.base.specs.Nearest.{LastBelow, NoneBelow}
use Rattle.summary_bits.specs.Bits.{bit_at, with_on}
use Rattle.summary_bits.proofs.Search.{prev_at, prev_some}
use Rattle.slide_mapper.proofs.State.{pivot-lt, shared_lt, search_asks, inserted_as, inserted_again, inserted_query_low, inserted_high, more_held, inserted_other_low, inserted_some, inserted_lost}
use Rattle.slide_mapper.proofs.insert_ref.Goals as goal

pub returns-then-at-coord : goal.returns-then-at-coord
returns-then-at-coord c = inserted_as c.set.ensures.0 c.set.ensures.1 (inserted_high c.requires.0 c.args.coord.0 c.requires.1 c.if-at-coord.true)

pub returns-then-word-gt1 : goal.returns-then-word-gt1
returns-then-word-gt1 c = inserted_as c.set.ensures.0 c.set.ensures.1 (inserted_again c.requires.0 c.args.coord.0 c.requires.1 c.if-word-gt1.true)

pub overflow_add-result : goal.overflow_add-result
overflow_add-result c = omega (arith, shared_lt c.requires.0)

pub returns-then-word-eq1 : goal.returns-then-word-eq1
returns-then-word-eq1 c = inserted_as c.set.ensures.0 c.set.ensures.1 (inserted_query_low c.requires.0 c.args.coord.0 c.requires.1 c.if-word-eq1.true c.if-at-coord.false)

pub shared_bit-lost-requires : goal.shared_bit-lost-requires
shared_bit-lost-requires c =
    let word : ℕ = get_or c.args.counts.now c.args.coord.0 0 in
    omega (arith, pivot-lt c.requires.0, length-set c.args.counts.now c.args.coord.0 (word + 2))

pub prev_set_before-requires : goal.prev_set_before-requires
prev_set_before-requires c =
    let word : ℕ = get_or c.args.counts.now c.args.coord.0 0 in
    search_asks c.args.at.pivot.0 (more_held c.requires.0 c.args.coord.0 c.requires.1) (omega (arith, pivot-lt c.requires.0, length-set c.args.counts.now c.args.coord.0 (word + 2))) c.set.new.words c.set.new.summary c.set.ensures.0 c.set.ensures.1

pub unwrap-before-requires : goal.unwrap-before-requires
unwrap-before-requires c =
    let word : ℕ = get_or c.args.counts.now c.args.coord.0 0 in
    let none : word ≡ 0 = omega (arith, c.if-word-gt1.false, c.if-word-eq1.false) in
    let p = c.args.at.pivot.0 in
    prev_some _ _ _ c.prev_set_before.ensures
    (λ none_below.
    inserted_some c.requires.0 c.args.coord.0 c.requires.1 none c.if-at-coord.false
    (subst (λ (x : List ℕ). NoneBelow (bit_at x) p) c.set.ensures.0 none_below))

pub overflow_cast-result : goal.overflow_cast-result
overflow_cast-result c = omega (arith, (prev_at c.unwrap-before.ensures c.prev_set_before.ensures).below, pivot-lt c.requires.0, c.requires.0.held.small)

pub overflow_sub-result : goal.overflow_sub-result
overflow_sub-result c =
    let word : ℕ = get_or c.args.counts.now c.args.coord.0 0 in
    let none : word ≡ 0 = omega (arith, c.if-word-gt1.false, c.if-word-eq1.false) in
    omega (arith, c.shared_bit-lost.ensures, inserted_lost c.requires.0 c.args.coord.0 c.requires.1 none)

pub returns : goal.returns
returns c =
    let word : ℕ = get_or c.args.counts.now c.args.coord.0 0 in
    let none : word ≡ 0 = omega (arith, c.if-word-gt1.false, c.if-word-eq1.false) in
    let q = c.unwrap-before.result in
    let p = c.args.at.pivot.0 in
    let last : LastBelow (bit_at (with_on c.args.words.now c.args.coord.0)) p q =
    subst (λ (x : List ℕ). LastBelow (bit_at x) p q) c.set.ensures.0 (prev_at c.unwrap-before.ensures c.prev_set_before.ensures) in
    inserted_as c.set.ensures.0 c.set.ensures.1
    (inserted_other_low c.requires.0 c.args.coord.0 c.requires.1 none c.if-at-coord.false q c.shared_bit-lost.result last c.shared_bit-lost.ensures)
