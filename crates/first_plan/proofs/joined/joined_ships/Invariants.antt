use Rattle.std.proofs.Common.{◌<◌, All}
use Rattle.first_plan.proofs.joined.joined_ships.Given as goal

abbrev pub invariant-loop-ship : goal.invariant-loop-ship
invariant-loop-ship l = All (λ s. s < l.ship-counter) l.ships
