use Rattle.std.proofs.Common.{◌≡◌}
use Rattle.refute_rules.specs.Choices.{decisions}
use Rattle.deck_cases.proofs.decisions.case_decisions.Given as goal

abbrev pub invariant-loop-ship : goal.invariant-loop-ship
invariant-loop-ship l = l.list ≡ decisions l.ship
