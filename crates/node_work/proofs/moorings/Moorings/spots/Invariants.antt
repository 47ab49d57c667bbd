use Rattle.std.proofs.Common.{◌≡◌, drop}
use Rattle.node_work.specs.Moorings.{spots_in}
use Rattle.node_work.proofs.moorings.Moorings.spots.Given as goal

abbrev pub invariant-loop-mooring : goal.invariant-loop-mooring
invariant-loop-mooring l = spots_in (drop l.mooring-index l.mooring-items) l.chamber l.ships ≡ spots_in l.mooring-items l.chamber l.ships
