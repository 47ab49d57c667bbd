use Rattle.std.proofs.Common.{ap, ◌∙◌, sym, subst}
use Rattle.refute_rules.specs.Cuts.{Cut}
use Rattle.chamber_place.specs.Parts.{IsLeast}
use Rattle.chamber_place.proofs.PartLemmas.{begun-kept}
use Rattle.chamber_place.proofs.shrinking.shrink.Goals as goal

pub returns-clause-shrunk : goal.returns-clause-shrunk
returns-clause-shrunk c =
    let places = c.in_ok-least.least.places in
    let deck_is = ap (λ (cut : Cut). cut.deck) c.known_cut.ensures ∙ c.part_of-part.ensures.value in
    record {
      kept = places;
      places = c.in_ok-least.ensures.part.some;
      chamber_is = ap (λ (cut : Cut). cut.chamber) c.known_cut.ensures;
      ships_are = ap (λ (cut : Cut). cut.ships) c.known_cut.ensures ∙ c.ships_at-own.ensures.value;
      deck_is = deck_is;
      least = subst (λ d. IsLeast d c.args.turns) (sym deck_is) c.in_ok-least.ensures.least;
      clash = begun-kept c.args.deck.now c.args.refutation c.args.turns c.in_ok-begun.begun.places places c.requires.refuted c.in_ok-begun.ensures.clash c.in_ok-least.ensures.part.some c.in_ok-least.ensures.smaller;
    }
