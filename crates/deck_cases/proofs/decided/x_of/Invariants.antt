use Rattle.std.proofs.Common.{◌≡◌, drop}
use Rattle.refute_rules.specs.Decided.{x_in}
use Rattle.deck_cases.proofs.decided.x_of.Given as goal

abbrev pub invariant-loop-choice : goal.invariant-loop-choice
invariant-loop-choice l = x_in (drop l.choice-index l.choices) l.ship ≡ x_in (drop 0 l.choices) l.ship
