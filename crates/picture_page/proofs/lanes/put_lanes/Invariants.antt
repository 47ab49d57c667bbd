use Rattle.std.proofs.Common.{◌≡◌, ◌++◌}
use Rattle.std.specs.List.{flat_map, range_with_len}
use Rattle.picture_page.specs.Lanes.{lane_at}
use Rattle.picture_page.proofs.lanes.put_lanes.Given as goal

abbrev pub invariant-loop-number : goal.invariant-loop-number
invariant-loop-number l = l.out.items ≡ l.initial.out.items ++ flat_map (lane_at l.instance l.axis l.passages) (range_with_len 0 l.number)
