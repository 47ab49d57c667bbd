use Rattle.std.proofs.Common.{◌<◌, All}
use Rattle.sweep.proofs.plan.ships_of.Given as goal

abbrev pub invariant-loop-ship : goal.invariant-loop-ship
invariant-loop-ship l = All (λ s. s < l.ship) l.ships
