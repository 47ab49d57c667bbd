use Rattle.std.proofs.Common.{◌≡◌}
use Rattle.refute_rules.specs.Choices.{spot_decisions}
use Rattle.deck_cases.proofs.decisions.spot_decisions.Given as goal

abbrev pub invariant-loop-ship : goal.invariant-loop-ship
invariant-loop-ship l = l.list ≡ spot_decisions l.ship
