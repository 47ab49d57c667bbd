use Rattle.sweep.specs.Ends.{AreAllCases}
use Rattle.sweep.proofs.sweeping.cases_of.Given as goal

abbrev pub invariant-loop-place : goal.invariant-loop-place
invariant-loop-place l = AreAllCases l.asked l.late l.place l.cases.items
