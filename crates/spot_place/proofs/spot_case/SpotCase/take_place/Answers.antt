use Rattle.std.proofs.Common.{ap, ◌∙◌, List, ℕ, slice_index_or, ◌≡◌}
use Rattle.lock_model.specs.Deck.{Deck}
use Rattle.refute_rules.specs.Values.{spot_values}
use Rattle.spot_place.proofs.KeptLemmas.{shown-deck}
use Rattle.spot_place.proofs.TakeLemmas.{place-taken}
use Rattle.spot_place.proofs.spot_case.SpotCase.take_place.Goals as goal

pub returns-clause-case : goal.returns-clause-case
returns-clause-case c =
    let i = c.self.inside in
    let s = c.args.self.now in
    let values : c.as_slice.result.now ≡ spot_values s.deck = c.as_slice.ensures.value ∙ c.self.invariant.valued ∙ ap (λ (d : Deck). spot_values d) (shown-deck i.deck i.values i.berths.items i.places.items i.levels.items c.self.invariant s c.self.view_is) in
    place-taken s c.place.new.self (slice_index_or c.as_slice.result.now c.args.option 0) c.args.option (ap (λ (vs : List ℕ). slice_index_or vs c.args.option 0) values) c.requires.step c.requires.option c.place.ensures
