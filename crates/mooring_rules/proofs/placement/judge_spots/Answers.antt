use Rattle.std.proofs.Common.{subst}
use Rattle.mooring_rules.specs.PlacementBreaks.{IsFirstBroken}
use Rattle.mooring_rules.specs.declared.breaks.Broken.TheVariants.{Touching}
use Rattle.mooring_rules.proofs.PlacementLemmas.{IsFirstBroken-illegal}
use Rattle.mooring_rules.proofs.placement.judge_spots.Goals as goal

first_touching : (c : goal.In-Some-first_touching) → IsFirstBroken c.args.deck.now c.args.spots.now (Touching c.in-Some-first_touching.i c.in-Some-first_touching.j)
first_touching c =
    subst (λ spots. IsFirstBroken c.args.deck.now spots (Touching c.in-Some-first_touching.i c.in-Some-first_touching.j)) c.as_slice-spots.ensures.value
    (c.in_default.ensures.none, c.in-Some-first_touching.ensures.some)

pub returns-in-Some-first_touching-clause-none : goal.returns-in-Some-first_touching-clause-none
returns-in-Some-first_touching-clause-none c = (
  λ never. absurd (cc),
  λ legal. absurd (IsFirstBroken-illegal c.args.deck.now c.args.spots.now (Touching c.in-Some-first_touching.i c.in-Some-first_touching.j) (first_touching c) legal),
)
