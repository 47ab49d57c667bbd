use Rattle.sweep.specs.Bounds.{AreLanesOf}
use Rattle.sweep.proofs.beam.Beam.offer_by_arcs.Given as goal

abbrev pub invariant-loop-place : goal.invariant-loop-place
invariant-loop-place l = AreLanesOf l.case 0 l.self.lanes.now
