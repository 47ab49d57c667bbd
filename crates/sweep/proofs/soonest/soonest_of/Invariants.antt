use Rattle.sweep.specs.Soonest.{AreSoonBefore}
use Rattle.sweep.proofs.soonest.soonest_of.Given as goal

abbrev pub invariant-loop-chamber : goal.invariant-loop-chamber
invariant-loop-chamber l = AreSoonBefore l.case l.label l.chamber l.soonest
