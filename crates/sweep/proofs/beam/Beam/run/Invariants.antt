use Rattle.sweep.specs.Bounds.{AreLanesOf}
use Rattle.sweep.proofs.beam.Beam.run.Given as goal

abbrev pub invariant-loop-count : goal.invariant-loop-count
invariant-loop-count l = AreLanesOf l.case 0 l.self.lanes.now
