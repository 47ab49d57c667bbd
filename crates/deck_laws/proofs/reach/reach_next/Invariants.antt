use Rattle.std.proofs.Common.{◌+◌}
use Rattle.deck_laws.specs.Reach.{AreReached, IsNextOf}
use Rattle.deck_laws.proofs.reach.reach_next.Given as goal

abbrev pub invariant-loop-v : goal.invariant-loop-v
invariant-loop-v l = AreReached l.fn.rounds l.rounds (l.before + 1) (IsNextOf l.deck l.fn.rounds l.before l.v)
