use Rattle.std.proofs.Common.{◌≡◌, length}
use Rattle.sweep.proofs.late.early_ships.Given as goal

abbrev pub invariant-loop-ship : goal.invariant-loop-ship
invariant-loop-ship l = length l.early.items ≡ l.ship
