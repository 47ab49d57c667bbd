use Rattle.sweep.specs.Bounds.{AreLanesOf}
use Rattle.sweep.proofs.beam.Beam.offer_by_all.Given as goal

abbrev pub invariant-loop-chamber : goal.invariant-loop-chamber
invariant-loop-chamber l = AreLanesOf l.case 0 l.self.lanes.now
