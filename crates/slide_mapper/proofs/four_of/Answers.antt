-- `four_of` puts four count words next to each other.
use native.Mathlib.Omega.{arith}
use mathlib.Core.Path.{refl}
use Prim.Native.Nat.{◌+◌}
use Rattle.slide_mapper.proofs.First.{gathered_one, gathered_more}
use Rattle.slide_mapper.proofs.four_of.Goals as goal

pub returns : goal.returns
returns c =
    let cs = c.args.counts.now in
    let i = c.args.i in
    let low = c.requires.1 in
    let two = gathered_more 1 (gathered_one cs i (i + 1) refl (low i)) (gathered_one cs (i + 1) (i + 2) (omega arith) (low (i + 1))) refl (omega arith) (omega arith) in
    let three = gathered_more 2 two (gathered_one cs (i + 2) (i + 3) (omega arith) (low (i + 2))) refl (omega arith) (omega arith) in
    rw (c.from.ensures, c.from-2.ensures, c.from-3.ensures, c.from-4.ensures)
    (gathered_more 3 three (gathered_one cs (i + 3) (i + 4) (omega arith) (low (i + 3))) refl (omega arith) (omega arith))
