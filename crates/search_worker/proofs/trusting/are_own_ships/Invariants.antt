use Rattle.std.proofs.Common.{◌<◌, ℕ, slice_index_or}
use Rattle.search_worker.specs.Owning.{IsOwnShip}
use Rattle.search_worker.proofs.trusting.are_own_ships.Given as goal

abbrev pub invariant-loop-ship : goal.invariant-loop-ship
invariant-loop-ship l = (k : ℕ) → k < l.ship-index → IsOwnShip l.instance l.first l.way (slice_index_or l.ships k 0)
