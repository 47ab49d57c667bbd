use Rattle.std.proofs.Common.{ℕ, ◌<◌}
use Rattle.spot_place.specs.OnWay.{lying, IsBack}
use Rattle.spot_place.proofs.berths.first_leading_back.Given as goal

abbrev pub invariant-loop-ship : goal.invariant-loop-ship
invariant-loop-ship l = (i : ℕ) → i < l.ship → IsBack (lying l.berths) l.ships i → ⊥
