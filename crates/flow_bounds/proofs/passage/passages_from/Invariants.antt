use Rattle.std.proofs.Common.{◌≡◌, ◌≤◌, ◌*◌, take, sum_by}
use Rattle.lock_rules.specs.Bound.{least_passage}
use Rattle.flow_bounds.proofs.passage.passages_from.Given as goal

abbrev pub invariant-loop-ship : goal.invariant-loop-ship
invariant-loop-ship l = (l.sum ≡ sum_by (least_passage l.instance) (take l.ship-index l.missing)) × (l.sum ≤ 13000000 * l.ship-index)
