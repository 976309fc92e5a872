-- `list` has the range that the sweep still holds written.
use native.Mathlib.Omega.{arith}
use Rattle.candidate_ranges.proofs.Listing.{room_within, holding_room, holding_finished}
use Rattle.interval_cover.proofs.Cover.list.Goals as goal

pub returns : goal.returns
returns c =
    let s = c.sweep.ensures in
    let end = holding_finished s.holding c.finish.ensures (room_within s.few (holding_room s.holding c.requires)) in
    record { listed = end.0; few = omega (arith, end.1, s.few) }
