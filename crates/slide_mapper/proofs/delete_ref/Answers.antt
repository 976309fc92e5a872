-- `delete_ref` is the rules' `delete_ref`: what it stores by numbers is what each case of proofs/State stores, and the search after the pivot
-- finds one.
use mathlib.Core.Path.{◌≡◌, refl, ap, ◌∙◌, subst}
use mathlib.Core.List.{List}
use Prim.Native.Nat.{ℕ, ◌<◌, ◌+◌, ◌-◌}
use native.Mathlib.Omega.{arith}
use lib.ListN.{get_or, set, length-set}
use Rattle.base.specs.Lists.{hit}
use Rattle.base.specs.Nearest.{FirstFrom, NoneFrom}
use Rattle.base.proofs.Lists.{hit-le}
use Rattle.summary_bits.specs.Bits.{bit_at, with_off}
use Rattle.summary_bits.specs.Summary.{lowered}
use Rattle.summary_bits.proofs.Search.{next_at, next_some}
use Rattle.slide_mapper.specs.State.{shared_bit}
use Rattle.slide_mapper.proofs.State.{pivot-lt, shared_lt, bit_le, search_asks, took_le, took_one, leaves, gone_as, flat_none, flat_again, flat_query, flat_high, deleted_pos, less_held, deleted_in, deleted_other_low, deleted_some}
use Rattle.slide_mapper.proofs.delete_ref.Goals as goal

pub overflow_sub-counts : goal.overflow_sub-counts
overflow_sub-counts c =
    let word : ℕ = get_or c.args.counts.now c.args.coord.0 0 in
    took_le c.requires.0 c.args.coord.0 c.requires.1 c.taken.result (hit word 2) c.taken.ensures refl

pub clear_if-requires : goal.clear_if-requires
clear_if-requires c =
    let word : ℕ = get_or c.args.counts.now c.args.coord.0 0 in
    let h = c.requires.0.held in
    (h.fits, h.summary, omega (arith, h.room, c.requires.1), omega (arith, c.one_if_last.ensures, hit-le word 2))

pub returns-then-at-coord : goal.returns-then-at-coord
returns-then-at-coord c = flat_high c.requires.0 c.args.coord.0 c.requires.1 c.taken.result c.one_if_last.result c.taken.ensures c.one_if_last.ensures c.clear_if.ensures.0 c.clear_if.ensures.1 c.if-at-coord.true

pub returns-then-word-lt2 : goal.returns-then-word-lt2
returns-then-word-lt2 c = flat_none c.requires.0 c.args.coord.0 c.requires.1 c.taken.result c.one_if_last.result c.taken.ensures c.one_if_last.ensures c.clear_if.ensures.0 c.clear_if.ensures.1 c.if-word-lt2.true

pub returns-then-word-gt3 : goal.returns-then-word-gt3
returns-then-word-gt3 c = flat_again c.requires.0 c.args.coord.0 c.requires.1 c.taken.result c.one_if_last.result c.taken.ensures c.one_if_last.ensures c.clear_if.ensures.0 c.clear_if.ensures.1 c.if-word-gt3.true

pub overflow_sub-result : goal.overflow_sub-result
overflow_sub-result c = deleted_pos c.requires.0 c.args.coord.0 c.requires.1 (omega (arith, c.if-word-eq3.true)) c.if-word-eq3.true c.if-at-coord.false

pub returns-then-word-eq3 : goal.returns-then-word-eq3
returns-then-word-eq3 c = flat_query c.requires.0 c.args.coord.0 c.requires.1 c.taken.result c.one_if_last.result c.taken.ensures c.one_if_last.ensures c.clear_if.ensures.0 c.clear_if.ensures.1 c.if-word-eq3.true c.if-at-coord.false

pub next_set_after-requires : goal.next_set_after-requires
next_set_after-requires c =
    let word : ℕ = get_or c.args.counts.now c.args.coord.0 0 in
    let two : word ≡ 2 = omega (arith, c.if-word-lt2.false, c.if-word-gt3.false, c.if-word-eq3.false) in
    let some : 1 < word = omega (arith, two) in
    let off : c.clear_if.new.words ≡ with_off c.args.words.now c.args.coord.0 = leaves c.requires.0 c.args.coord.0 c.requires.1 c.taken.result c.one_if_last.result c.taken.ensures c.one_if_last.ensures (with_off c.args.words.now c.args.coord.0) c.args.words.now two c.clear_if.ensures.0 in
    let lower : c.clear_if.new.summary ≡ lowered c.args.words.now c.args.summary.now c.args.coord.0 = leaves c.requires.0 c.args.coord.0 c.requires.1 c.taken.result c.one_if_last.result c.taken.ensures c.one_if_last.ensures (lowered c.args.words.now c.args.summary.now c.args.coord.0) c.args.summary.now two c.clear_if.ensures.1 in
    let r =
    search_asks c.args.at.pivot.0 (less_held c.requires.0 c.args.coord.0 c.requires.1 some two) (omega (arith, pivot-lt c.requires.0, length-set c.args.counts.now c.args.coord.0 (word - 2)))
    c.clear_if.new.words c.clear_if.new.summary off lower in
    (r.0, r.1)

pub unwrap-after-requires : goal.unwrap-after-requires
unwrap-after-requires c =
    let word : ℕ = get_or c.args.counts.now c.args.coord.0 0 in
    let two : word ≡ 2 = omega (arith, c.if-word-lt2.false, c.if-word-gt3.false, c.if-word-eq3.false) in
    let some : 1 < word = omega (arith, two) in
    let off : c.clear_if.new.words ≡ with_off c.args.words.now c.args.coord.0 = leaves c.requires.0 c.args.coord.0 c.requires.1 c.taken.result c.one_if_last.result c.taken.ensures c.one_if_last.ensures (with_off c.args.words.now c.args.coord.0) c.args.words.now two c.clear_if.ensures.0 in
    let p = c.args.at.pivot.0 in
    next_some _ _ _ c.next_set_after.ensures
    (λ none_from.
    deleted_some c.requires.0 c.args.coord.0 c.requires.1 some two c.if-at-coord.false
    (subst (λ (x : List ℕ). NoneFrom (bit_at x) (p + 1)) off none_from))

pub overflow_cast-next : goal.overflow_cast-next
overflow_cast-next c =
    let word : ℕ = get_or c.args.counts.now c.args.coord.0 0 in
    let two : word ≡ 2 = omega (arith, c.if-word-lt2.false, c.if-word-gt3.false, c.if-word-eq3.false) in
    let some : 1 < word = omega (arith, two) in
    let off : c.clear_if.new.words ≡ with_off c.args.words.now c.args.coord.0 = leaves c.requires.0 c.args.coord.0 c.requires.1 c.taken.result c.one_if_last.result c.taken.ensures c.one_if_last.ensures (with_off c.args.words.now c.args.coord.0) c.args.words.now two c.clear_if.ensures.0 in
    let found : FirstFrom (bit_at (with_off c.args.words.now c.args.coord.0)) (c.args.at.pivot.0 + 1) c.unwrap-after.result = subst (λ (x : List ℕ). FirstFrom (bit_at x) (c.args.at.pivot.0 + 1) c.unwrap-after.result) off
    (next_at c.unwrap-after.ensures c.next_set_after.ensures) in
    omega (arith, deleted_in c.requires.0 c.args.coord.0 c.requires.1 some two c.unwrap-after.result found.on, c.requires.0.held.small)

pub shared_bit-won-requires : goal.shared_bit-won-requires
shared_bit-won-requires c =
    let word : ℕ = get_or c.args.counts.now c.args.coord.0 0 in
    let two : word ≡ 2 = omega (arith, c.if-word-lt2.false, c.if-word-gt3.false, c.if-word-eq3.false) in
    let some : 1 < word = omega (arith, two) in
    let off : c.clear_if.new.words ≡ with_off c.args.words.now c.args.coord.0 = leaves c.requires.0 c.args.coord.0 c.requires.1 c.taken.result c.one_if_last.result c.taken.ensures c.one_if_last.ensures (with_off c.args.words.now c.args.coord.0) c.args.words.now two c.clear_if.ensures.0 in
    let found : FirstFrom (bit_at (with_off c.args.words.now c.args.coord.0)) (c.args.at.pivot.0 + 1) c.unwrap-after.result = subst (λ (x : List ℕ). FirstFrom (bit_at x) (c.args.at.pivot.0 + 1) c.unwrap-after.result) off
    (next_at c.unwrap-after.ensures c.next_set_after.ensures) in
    omega (arith, length-set c.args.counts.now c.args.coord.0 (word - c.taken.result), deleted_in c.requires.0 c.args.coord.0 c.requires.1 some two c.unwrap-after.result found.on)

pub overflow_add-result : goal.overflow_add-result
overflow_add-result c =
    let word : ℕ = get_or c.args.counts.now c.args.coord.0 0 in
    omega (arith, shared_lt c.requires.0, c.shared_bit-won.ensures, bit_le (set c.args.counts.now c.args.coord.0 (word - c.taken.result)) c.unwrap-after.result)

pub returns : goal.returns
returns c =
    let word : ℕ = get_or c.args.counts.now c.args.coord.0 0 in
    let two : word ≡ 2 = omega (arith, c.if-word-lt2.false, c.if-word-gt3.false, c.if-word-eq3.false) in
    let some : 1 < word = omega (arith, two) in
    let off : c.clear_if.new.words ≡ with_off c.args.words.now c.args.coord.0 = leaves c.requires.0 c.args.coord.0 c.requires.1 c.taken.result c.one_if_last.result c.taken.ensures c.one_if_last.ensures (with_off c.args.words.now c.args.coord.0) c.args.words.now two c.clear_if.ensures.0 in
    let found : FirstFrom (bit_at (with_off c.args.words.now c.args.coord.0)) (c.args.at.pivot.0 + 1) c.unwrap-after.result = subst (λ (x : List ℕ). FirstFrom (bit_at x) (c.args.at.pivot.0 + 1) c.unwrap-after.result) off
    (next_at c.unwrap-after.ensures c.next_set_after.ensures) in
    let q = c.unwrap-after.result in
    let less = took_one c.requires.0 c.args.coord.0 c.requires.1 c.taken.result c.one_if_last.result c.taken.ensures c.one_if_last.ensures some in
    gone_as c.requires.0 c.args.coord.0 c.requires.1 c.taken.result c.one_if_last.result c.taken.ensures c.one_if_last.ensures c.clear_if.ensures.0 c.clear_if.ensures.1 two
    (deleted_other_low c.requires.0 c.args.coord.0 c.requires.1 some two c.if-at-coord.false q c.shared_bit-won.result found (c.shared_bit-won.ensures ∙ ap (λ (x : List ℕ). shared_bit x q) less))
