use Rattle.std.proofs.Common.{◌≡◌, ◌++◌, ◌∷◌, map}
use Rattle.lock_rules.specs.Arrival.{numbers_from}
use Rattle.refute_rules.specs.declared.choices.Decision.TheVariants.{BerthOf, PairOf}
use Rattle.refute_rules.specs.Choices.{decisions}
use Rattle.deck_cases.proofs.decisions.push_ship.Given as goal

abbrev pub invariant-loop-other : goal.invariant-loop-other
invariant-loop-other l = l.list ≡ decisions l.ship ++ BerthOf l.ship ∷ map (λ i. PairOf i l.ship) (numbers_from 0 l.other)
