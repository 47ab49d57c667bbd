use Rattle.deck_laws.specs.Reach.{AreReached, IsStepOf}
use Rattle.deck_laws.proofs.reach.reach_from.Given as goal

abbrev pub invariant-loop-j : goal.invariant-loop-j
invariant-loop-j l = AreReached l.fn.rounds l.rounds l.round (IsStepOf l.deck l.v l.j)
