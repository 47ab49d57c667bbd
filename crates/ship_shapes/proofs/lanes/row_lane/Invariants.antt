use Rattle.std.proofs.Common.{◌≡◌, map, take}
use Rattle.ship_shapes.proofs.LaneLemmas.{row_need}
use Rattle.ship_shapes.proofs.lanes.row_lane.Given as goal

abbrev pub invariant-loop-size : goal.invariant-loop-size
invariant-loop-size l = l.needs.items ≡ map (row_need l.deck) (take l.size-index l.sizes)
