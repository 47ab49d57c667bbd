use Rattle.std.proofs.Common.{◌≡◌, ◌≤◌, length, map, drop}
use Rattle.std.specs.Prelude.{IfSome}
use Rattle.flow_bounds.specs.Least.{least_told}
use Rattle.flow_bounds.proofs.capacity.first_arrival.Given as goal

abbrev pub decreases-loop-i : goal.decreases-loop-i
decreases-loop-i l = l.i

abbrev pub invariant-loop-i : goal.invariant-loop-i
invariant-loop-i l = (l.i ≤ length l.ships) × (l.told ≡ least_told (map (λ s. s.arrival) (drop l.i l.ships))) × IfSome l.told (λ minute. minute ≤ 1000000)
