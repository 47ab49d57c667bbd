use Rattle.std.proofs.Common.{◌≡◌, drop}
use Rattle.refute_rules.specs.Decided.{berth_in}
use Rattle.deck_cases.proofs.decided.berth_of.Given as goal

abbrev pub invariant-loop-choice : goal.invariant-loop-choice
invariant-loop-choice l = berth_in (drop l.choice-index l.choices) l.ship ≡ berth_in (drop 0 l.choices) l.ship
