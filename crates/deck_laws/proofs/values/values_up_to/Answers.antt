use Rattle.std.proofs.Common.{◌≡◌, subst}
use Rattle.lock_model.specs.Deck.{IsDeck}
use Rattle.refute_rules.specs.Values.{spot_values}
use Rattle.deck_laws.specs.Laws.{HoldNormalPlaces}
use Rattle.deck_laws.proofs.ValueLemmas.{ok_weaker, normal_of}
use Rattle.deck_laws.proofs.values.values_up_to.Goals as goal

pub returns-clause-normal : goal.returns-clause-normal
returns-clause-normal c = ok_weaker c.values_in.result (λ values. values ≡ spot_values c.args.deck.now) (HoldNormalPlaces c.args.deck.now) (λ values is. normal_of c.args.deck.now values (subst IsDeck c.deck.view_is c.deck.invariant) is) c.values_in.ensures
