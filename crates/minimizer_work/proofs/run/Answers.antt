-- `run` answers the best of the items' stops: their numbers stand behind the query's in the list of coordinates, and no item is active before the sweep.
use native.Mathlib.Omega.{arith}
use mathlib.Core.Path.{◌≡◌, ◌∙◌}
use Prim.Native.Nat.{◌+◌}
use lib.ListN.{length}
use Rattle.sweep.proofs.Beginning.{clear_exact}
use Rattle.minimizer_work.proofs.Working.{run_begins, run_answers}
use Rattle.minimizer_work.proofs.run.Goals as goal

pub overflow_cast-count : goal.overflow_cast-count
overflow_cast-count c = omega (arith, c.requires.asks.few)

pub slice_bounds-sweep_stops-count : goal.slice_bounds-sweep_stops-count
slice_bounds-sweep_stops-count c =
    let coords_long : length c.prepare-begun.new.self.coords.now ≡ length c.args.query.now + length c.args.items.hashes.now = c.prepare-begun.new.self.exact.coords ∙ c.prepare-begun.ensures.same.size ∙ (clear_exact c.requires.zero).hashes in
    omega (arith, coords_long)

pub slice_bounds-sweep_stops-start : goal.slice_bounds-sweep_stops-start
slice_bounds-sweep_stops-start c =
    let coords_long : length c.prepare-begun.new.self.coords.now ≡ length c.args.query.now + length c.args.items.hashes.now = c.prepare-begun.new.self.exact.coords ∙ c.prepare-begun.ensures.same.size ∙ (clear_exact c.requires.zero).hashes in
    omega (arith, coords_long)

pub sweep_stops-swept-requires : goal.sweep_stops-swept-requires
sweep_stops-swept-requires c =
    let coords_long : length c.prepare-begun.new.self.coords.now ≡ length c.args.query.now + length c.args.items.hashes.now = c.prepare-begun.new.self.exact.coords ∙ c.prepare-begun.ensures.same.size ∙ (clear_exact c.requires.zero).hashes in
    let counts_long : length c.prepare-begun.new.self.counts.now ≡ length c.args.query.now + length c.args.items.hashes.now = c.prepare-begun.new.self.exact.counts ∙ c.prepare-begun.ensures.same.size ∙ (clear_exact c.requires.zero).hashes in
    run_begins c.requires.asks _ c.prepare-begun.ensures.begins coords_long counts_long

pub returns : goal.returns
returns c =
    let coords_long : length c.prepare-begun.new.self.coords.now ≡ length c.args.query.now + length c.args.items.hashes.now = c.prepare-begun.new.self.exact.coords ∙ c.prepare-begun.ensures.same.size ∙ (clear_exact c.requires.zero).hashes in
    let s = c.prepare-begun.ensures.same in
    record { same = record { keys = s.keys; counts = s.counts; coords = s.coords; words = s.words; summary = s.summary; size = s.size }; answers = run_answers c.requires.asks c.prepare-begun.ensures.begins coords_long c.sweep_stops-swept.ensures }
