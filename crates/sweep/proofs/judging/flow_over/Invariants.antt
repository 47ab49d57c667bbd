use Rattle.sweep.specs.Judging.{lines_in, AreUncutLines}
use Rattle.sweep.proofs.judging.flow_over.Given as goal

abbrev pub invariant-loop-chamber : goal.invariant-loop-chamber
invariant-loop-chamber l = AreUncutLines l.asked (lines_in l.lines) l.chamber l.flow
