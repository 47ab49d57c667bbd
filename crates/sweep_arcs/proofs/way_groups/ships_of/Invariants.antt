use Rattle.sweep_arcs.specs.Ways.{AreJoined}
use Rattle.sweep_arcs.proofs.way_groups.ships_of.Given as goal

abbrev pub invariant-loop-one : goal.invariant-loop-one
invariant-loop-one l = AreJoined l.groups l.one-index l.ships.bits
