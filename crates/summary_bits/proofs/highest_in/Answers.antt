-- `highest_in` answers the word's highest set bit: the count of leading zeros is the way down from its bit 63.
use Prim.Native.Nat.{ℕ, ◌<◌, ◌^◌}
use native.Mathlib.Omega.{arith}
use lib.ListN.{get_or}
use Rattle.summary_bits.proofs.Number.{top_near}
use Rattle.summary_bits.proofs.Search.{word_top}
use Rattle.summary_bits.proofs.highest_in.Goals as goal

pub overflow_cast-result : goal.overflow_cast-result
overflow_cast-result c =
    let x : ℕ = get_or c.args.words.now c.args.j 0 in
    let small : x < 2 ^ 64 = omega (arith, c.type_inv.words c.args.j) in
    omega (arith, top_near x c.requires.2 small)

pub overflow_sub-result : goal.overflow_sub-result
overflow_sub-result c =
    let x : ℕ = get_or c.args.words.now c.args.j 0 in
    let small : x < 2 ^ 64 = omega (arith, c.type_inv.words c.args.j) in
    omega (arith, top_near x c.requires.2 small)

pub returns : goal.returns
returns c =
    let x : ℕ = get_or c.args.words.now c.args.j 0 in
    let small : x < 2 ^ 64 = omega (arith, c.type_inv.words c.args.j) in
    word_top c.args.words.now c.args.j c.requires.2 small
