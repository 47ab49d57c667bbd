use Rattle.sweep_arcs.specs.Ways.{AreWithin}
use Rattle.sweep_arcs.proofs.way_arcs.within.Given as goal

abbrev pub invariant-loop-arc : goal.invariant-loop-arc
invariant-loop-arc l = AreWithin l.asked l.list.arcs.items l.arc-index l.arcs.items
