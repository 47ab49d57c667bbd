use Rattle.std.proofs.Common.{ℕ, ◌<◌, Contains, slice_index_or}
use Rattle.cert_check.proofs.hitting.are_together.Given as goal

abbrev pub invariant-loop-ship : goal.invariant-loop-ship
invariant-loop-ship l = (k : ℕ) → k < l.ship-index → Contains l.group.ships (slice_index_or l.ships k 0)
