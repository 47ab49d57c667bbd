use Rattle.sweep.specs.Soonest.{AreSteadyBefore}
use Rattle.sweep.proofs.soonest.is_steady.Given as goal

abbrev pub invariant-loop-chamber : goal.invariant-loop-chamber
invariant-loop-chamber l = AreSteadyBefore l.case l.label l.chamber
