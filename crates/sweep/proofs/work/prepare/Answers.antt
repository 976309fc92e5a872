-- `prepare` numbers the hashes and begins: the count words are the query's flags with clear words behind, which is what the mapper's `begin` asks.
use mathlib.Core.Path.{refl}
use native.Mathlib.Omega.{arith}
use Rattle.sweep.proofs.Beginning.{coords_asked, coords_few, begin_blank, begins}
use Rattle.sweep.proofs.work.prepare.Goals as goal

pub coordinates-n-requires : goal.coordinates-n-requires
coordinates-n-requires c = coords_asked c.requires.0 c.requires.1

pub begin-at-requires : goal.begin-at-requires
begin-at-requires c = begin_blank c.requires.0 c.requires.1 c.coordinates-n.ensures c.coordinates-n.auto.counts

pub overflow_cast-result : goal.overflow_cast-result
overflow_cast-result c = omega (arith, coords_few c.requires.0 c.requires.1 c.coordinates-n.ensures)

pub returns : goal.returns
returns c = begins c.requires.0 c.requires.1 c.coordinates-n.ensures c.begin-at.ensures.1 _ refl refl
