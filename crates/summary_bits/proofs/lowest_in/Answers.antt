-- `lowest_in` answers the word's lowest set bit: the count of trailing zeros is the way up from its bit 0.
use Prim.Native.Nat.{ℕ, ◌<◌, ◌^◌}
use native.Mathlib.Omega.{arith}
use lib.ListN.{get_or}
use Rattle.summary_bits.proofs.Number.{low_near}
use Rattle.summary_bits.proofs.Search.{word_low}
use Rattle.summary_bits.proofs.lowest_in.Goals as goal

pub overflow_cast-result : goal.overflow_cast-result
overflow_cast-result c =
    let x : ℕ = get_or c.args.words.now c.args.j 0 in
    let small : x < 2 ^ 64 = omega (arith, c.type_inv.words c.args.j) in
    omega (arith, low_near x c.requires.2 small)

pub overflow_add-result : goal.overflow_add-result
overflow_add-result c =
    let x : ℕ = get_or c.args.words.now c.args.j 0 in
    let small : x < 2 ^ 64 = omega (arith, c.type_inv.words c.args.j) in
    omega (arith, low_near x c.requires.2 small)

pub returns : goal.returns
returns c =
    let x : ℕ = get_or c.args.words.now c.args.j 0 in
    let small : x < 2 ^ 64 = omega (arith, c.type_inv.words c.args.j) in
    word_low c.args.words.now c.args.j c.requires.2 small
