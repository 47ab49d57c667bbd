use Rattle.std.proofs.Common.{◌≤◌, length}
use Rattle.deck_laws.specs.Reach.{HasReached}
use Rattle.deck_laws.proofs.values.reach_all.Given as goal

abbrev pub invariant-loop-before : goal.invariant-loop-before
invariant-loop-before l = (length l.rounds ≤ 100001) × HasReached l.deck l.before l.rounds
