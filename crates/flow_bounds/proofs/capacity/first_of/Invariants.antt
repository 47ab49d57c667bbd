use Rattle.std.proofs.Common.{◌≤◌, ◌<◌, ℕ, length}
use Rattle.flow_bounds.specs.Places.{minute_at}
use Rattle.flow_bounds.proofs.capacity.first_of.Given as goal

abbrev pub invariant-loop-k : goal.invariant-loop-k
invariant-loop-k l = (l.first < length l.all) × ((k : ℕ) → k < l.k → minute_at l.all l.first ≤ minute_at l.all k)
