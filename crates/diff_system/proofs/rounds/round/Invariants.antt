use Rattle.diff_system.specs.Rounds.{IsUnderway}
use Rattle.diff_system.proofs.rounds.round.Given as goal

abbrev pub invariant-loop-number : goal.invariant-loop-number
invariant-loop-number l = IsUnderway l.edges l.vars l.fn.paths l.paths l.first l.number l.raised
