use Rattle.std.proofs.Common.{◌<◌, ℕ, slice_index_or}
use Rattle.lock_model.specs.Instance.{IsShip}
use Rattle.lock_model.specs.Fleet.{no_ship}
use Rattle.lock_model.proofs.within.are_ships.Given as goal

abbrev pub invariant-loop-ship : goal.invariant-loop-ship
invariant-loop-ship l = (k : ℕ) → k < l.ship-index → IsShip (slice_index_or l.ships k no_ship)
