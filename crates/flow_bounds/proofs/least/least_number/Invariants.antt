use Rattle.std.proofs.Common.{◌≡◌, ◌≤◌, length, drop}
use Rattle.flow_bounds.specs.Least.{least_told}
use Rattle.flow_bounds.proofs.least.least_number.Given as goal

abbrev pub decreases-loop-i : goal.decreases-loop-i
decreases-loop-i l = l.i

abbrev pub invariant-loop-i : goal.invariant-loop-i
invariant-loop-i l = (l.i ≤ length l.numbers) × (l.told ≡ least_told (drop l.i l.numbers))
