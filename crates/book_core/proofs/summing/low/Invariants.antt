use Rattle.std.proofs.Common.{◌≡◌, ◌≤◌, length, drop}
use Rattle.flow_bounds.specs.Least.{least_told}
use Rattle.book_core.specs.Summing.{live_lows}
use Rattle.book_core.proofs.summing.low.Given as goal

abbrev pub decreases-loop-id : goal.decreases-loop-id
decreases-loop-id l = l.id

abbrev pub invariant-loop-id : goal.invariant-loop-id
invariant-loop-id l = record { within : l.id ≤ length l.slots; told : l.told ≡ least_told (live_lows (drop l.id l.slots)) }
