use Rattle.price_groups.specs.Asked.{line_asked}
use Rattle.sweep_arcs.specs.Awaited.{AreAwaited}
use Rattle.sweep_arcs.proofs.arrivals.awaited.Given as goal

abbrev pub invariant-loop-ship : goal.invariant-loop-ship
invariant-loop-ship l = AreAwaited (line_asked l.case) l.way l.ship l.coming.items
