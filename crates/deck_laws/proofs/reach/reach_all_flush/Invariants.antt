use Rattle.deck_laws.specs.Reach.{AreReached, IsFlushOf}
use Rattle.deck_laws.proofs.reach.reach_all_flush.Given as goal

abbrev pub invariant-loop-i : goal.invariant-loop-i
invariant-loop-i l = AreReached l.fn.rounds l.rounds l.round (IsFlushOf l.deck l.v l.j l.i)
