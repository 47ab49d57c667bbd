use Rattle.std.proofs.Common.{◌≡◌, length}
use Rattle.lock_model.specs.declared.limits.TheConstants.{SHIPS}
use Rattle.sweep_arcs.specs.Ways.{AreCeilings}
use Rattle.sweep_arcs.proofs.way_groups.raised.Given as goal

abbrev pub invariant-loop-ship : goal.invariant-loop-ship
invariant-loop-ship l = record {
  long : length l.high ≡ SHIPS;
  are : AreCeilings l.prices l.spread l.ship l.high;
}
