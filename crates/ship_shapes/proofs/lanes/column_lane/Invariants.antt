use Rattle.std.proofs.Common.{◌≡◌, map, take}
use Rattle.ship_shapes.proofs.LaneLemmas.{column_need}
use Rattle.ship_shapes.proofs.lanes.column_lane.Given as goal

abbrev pub invariant-loop-size : goal.invariant-loop-size
invariant-loop-size l = l.needs.items ≡ map (column_need l.deck) (take l.size-index l.sizes)
