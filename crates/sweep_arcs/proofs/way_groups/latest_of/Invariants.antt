use Rattle.sweep_arcs.specs.Ways.{AreBefore}
use Rattle.sweep_arcs.proofs.way_groups.latest_of.Given as goal

abbrev pub invariant-loop-ship : goal.invariant-loop-ship
invariant-loop-ship l = AreBefore l.instance (record { arrival = l.arrival; handling = l.handling }) l.ship-index
