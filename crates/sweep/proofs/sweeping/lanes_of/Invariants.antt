use Rattle.sweep.specs.Ends.{AreLanesBy}
use Rattle.sweep.proofs.sweeping.lanes_of.Given as goal

abbrev pub invariant-loop-place : goal.invariant-loop-place
invariant-loop-place l = AreLanesBy l.cases l.place l.lanes.items
