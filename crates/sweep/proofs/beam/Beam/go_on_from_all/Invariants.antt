use Rattle.sweep.specs.Bounds.{AreLanesOf}
use Rattle.sweep.proofs.beam.Beam.go_on_from_all.Given as goal

abbrev pub invariant-loop-place : goal.invariant-loop-place
invariant-loop-place l = AreLanesOf l.case 0 l.self.lanes.now
