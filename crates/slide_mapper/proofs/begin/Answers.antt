-- `begin` stores the query's flags as bits, a word a turn; then the last set bit is the pivot, and it is there since the query is not empty.
use mathlib.Core.Path.{◌≡◌, refl}
use Prim.Native.Nat.{◌<◌, ◌+◌, ◌*◌, min}
use native.Mathlib.Omega.{arith}
use lib.ListN.{length}
use Rattle.summary_bits.proofs.Search.{prev_at, prev_some}
use Rattle.slide_mapper.proofs.First.{Marked, filled_none, filled_fits, filled_in, filled_more, filled_all, begin_asks, begin_some, begin_ready}
use Rattle.slide_mapper.proofs.begin.Goals as goal

pub loop-w-init : goal.loop-w-init
loop-w-init c = (refl, filled_none c.requires (λ v. omega (arith, c.type_inv.words v)))

pub overflow_mul-from : goal.overflow_mul-from
overflow_mul-from c = omega (arith, c.loop-w.invariant.1.low, c.requires.small)

pub overflow_add-from : goal.overflow_add-from
overflow_add-from c = omega (arith, c.loop-w.invariant.1.low, c.requires.small)

pub gathered-requires : goal.gathered-requires
gathered-requires c =
    let ends : c.min-end.result ≡ min (c.loop-w.w * 64 + 64) (length c.args.counts.now) = omega (arith, c.min-end.ensures, c.loop-w.invariant.0) in
    let inside : c.loop-w.w * 64 < length c.args.counts.now = omega (arith, c.loop-w-test.true, c.loop-w.invariant.0) in
    (omega (arith, ends, inside), omega (arith, ends), omega (arith, ends), c.requires.flags)

pub store-requires : goal.store-requires
store-requires c =
    let inside : c.loop-w.w * 64 < length c.args.counts.now = omega (arith, c.loop-w-test.true, c.loop-w.invariant.0) in
    (filled_fits c.requires c.loop-w.invariant.1, filled_in c.requires c.loop-w.invariant.1 inside)

pub loop-w-preserved : goal.loop-w-preserved
loop-w-preserved c =
    let inside : c.loop-w.w * 64 < length c.args.counts.now = omega (arith, c.loop-w-test.true, c.loop-w.invariant.0) in
    let ends : c.min-end.result ≡ min (c.loop-w.w * 64 + 64) (length c.args.counts.now) = omega (arith, c.min-end.ensures, c.loop-w.invariant.0) in
    (c.loop-w.invariant.0, filled_more c.requires c.loop-w.invariant.1 inside c.min-end.result c.gathered.result ends c.gathered.ensures c.store.new.words c.store.new.summary c.store.ensures.0 c.store.ensures.1)

pub overflow_cast-n : goal.overflow_cast-n
overflow_cast-n c = omega (arith, c.loop-w.invariant.0, c.requires.small)

pub prev_set_before-requires : goal.prev_set_before-requires
prev_set_before-requires c =
    let all : Marked c.args.counts.now c.args.words.now c.args.summary.now c.loop-w.words c.loop-w.summary = filled_all c.requires c.loop-w.invariant.1 (omega (arith, c.loop-w-test.false, c.loop-w.invariant.0)) in
    begin_asks c.requires all

pub unwrap-last-requires : goal.unwrap-last-requires
unwrap-last-requires c =
    let all : Marked c.args.counts.now c.args.words.now c.args.summary.now c.loop-w.words c.loop-w.summary = filled_all c.requires c.loop-w.invariant.1 (omega (arith, c.loop-w-test.false, c.loop-w.invariant.0)) in
    prev_some _ _ _ c.prev_set_before.ensures (λ none. begin_some c.requires all (λ j l. none j (omega (arith, c.loop-w.invariant.0))))

pub overflow_cast-result : goal.overflow_cast-result
overflow_cast-result c = omega (arith, (prev_at c.unwrap-last.ensures c.prev_set_before.ensures).below, c.loop-w.invariant.0, c.requires.small)

pub returns : goal.returns
returns c =
    let all : Marked c.args.counts.now c.args.words.now c.args.summary.now c.loop-w.words c.loop-w.summary = filled_all c.requires c.loop-w.invariant.1 (omega (arith, c.loop-w-test.false, c.loop-w.invariant.0)) in
    (refl, begin_ready c.requires all c.unwrap-last.result (prev_at c.unwrap-last.ensures c.prev_set_before.ensures))
