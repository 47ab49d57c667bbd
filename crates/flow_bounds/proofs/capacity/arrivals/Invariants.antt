use Rattle.std.proofs.Common.{◌≡◌, ◌≤◌, ◌*◌, take, sum_by}
use Rattle.flow_bounds.proofs.capacity.arrivals.Given as goal

abbrev pub invariant-loop-ship : goal.invariant-loop-ship
invariant-loop-ship l = (l.sum ≡ sum_by (λ s. s.arrival) (take l.ship-index l.ship-items)) × (l.sum ≤ 1000000 * l.ship-index)
