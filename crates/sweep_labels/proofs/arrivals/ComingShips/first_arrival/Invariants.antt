use Rattle.sweep_labels.specs.Coming.{AreServed}
use Rattle.sweep_labels.proofs.arrivals.ComingShips.first_arrival.Given as goal

abbrev pub invariant-loop-one : goal.invariant-loop-one
invariant-loop-one l = AreServed l.self.items.items l.served.bits l.one-index
