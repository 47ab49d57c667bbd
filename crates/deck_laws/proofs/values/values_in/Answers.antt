use Rattle.std.proofs.Common.{◌≡◌, ◌∙◌, length}
use Rattle.refute_rules.specs.Values.{spot_values}
use Rattle.deck_laws.specs.Reach.{reached_of}
use Rattle.deck_laws.proofs.ValueLemmas.{ok_weaker, reached_values}
use Rattle.deck_laws.proofs.values.values_in.Goals as goal

pub returns : goal.returns
returns c = ok_weaker c.reached_places.result (λ values. values ≡ reached_of c.reach_all.new.rounds (length c.reach_all.new.rounds)) (λ values. values ≡ spot_values c.args.deck.now) (λ values is. is ∙ reached_values c.args.deck.now c.reach_all.new.rounds c.reach_all.ensures) c.reached_places.ensures
