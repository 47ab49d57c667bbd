use Rattle.std.proofs.Common.{ℕ, ◌<◌, Contains, slice_index_or}
use Rattle.price_groups.proofs.forbidden.are_in.Given as goal

abbrev pub invariant-loop-ship : goal.invariant-loop-ship
invariant-loop-ship l = (k : ℕ) → k < l.ship-index → Contains l.ships (slice_index_or l.set k 0)
