use Rattle.std.proofs.Common.{refl, sym, ap, ◌∙◌, subst, ◌≡◌}
use Rattle.lock_model.specs.Deck.{Deck, IsDeck}
use Rattle.refute_rules.specs.Spots.{IsWholeSpots}
use Rattle.spot_place.specs.SpotCase.{OnWay, case_on}
use Rattle.spot_place.proofs.PlacingLemmas.{first-whole, fitting, refuting, spent, refuted, whole-refutes_not, spent-refutes_not, whole-hard_not, refuted-hard_not}
use Rattle.spot_place.proofs.placing.place_by_spots.Goals as goal

pub spots-requires : goal.spots-requires
spots-requires c =
    let s = c.search.new.track in
    subst (λ (d : Deck). IsWholeSpots d (case_on s)) (sym c.search.ensures.deck)
    (first-whole c.new-case.result.deck c.new-case.result.deck refl c.args.turns s c.in_ok-search.field-0 c.in_ok-search.ensures.found c.in-Whole.is).is

pub returns-in-Whole-clause-answer : goal.returns-in-Whole-clause-answer
returns-in-Whole-clause-answer c =
    fitting c.args.deck.now c.new-case.result.deck (ap (λ (s : OnWay). s.deck) c.new-case.ensures ∙ c.copy.ensures) c.args.turns c.search.new.track c.in_ok-search.field-0 c.in_ok-search.ensures.found c.in-Whole.is
    c.search.ensures.deck c.spots.result c.spots.ensures.spots c.spots.ensures.legal

pub returns-in-Refuted-clause-answer : goal.returns-in-Refuted-clause-answer
returns-in-Refuted-clause-answer c =
    let same : c.new-case.result.deck ≡ c.args.deck.now = ap (λ (s : OnWay). s.deck) c.new-case.ensures ∙ c.copy.ensures in
    let shown : c.case.inside.deck ≡ c.args.deck.now = ap (λ (s : OnWay). s.deck) c.case.view_is ∙ c.search.ensures.deck ∙ same in
    refuting c.args.deck.now c.new-case.result.deck same c.args.turns c.search.new.track c.in_ok-search.field-0 c.in_ok-search.ensures.found c.in-Refuted.marks c.in-Refuted.is (subst (λ (d : Deck). IsDeck d) shown c.case.invariant.limits)

pub hard_spots-requires : goal.hard_spots-requires
hard_spots-requires c =
    spent c.copy-in-Spent.result c.new-case.result.deck (ap (λ (s : OnWay). s.deck) c.new-case.ensures ∙ c.copy.ensures ∙ sym c.copy-in-Spent.ensures) c.args.turns c.search.new.track c.in_ok-search.field-0 c.in_ok-search.ensures.found c.in-Spent.is

pub returns-in-Whole-clause-refutes : goal.returns-in-Whole-clause-refutes
returns-in-Whole-clause-refutes c = whole-refutes_not c.args.deck.now c.new-case.result.deck (ap (λ (s : OnWay). s.deck) c.new-case.ensures ∙ c.copy.ensures) c.args.turns c.search.new.track c.in_ok-search.field-0 c.in_ok-search.ensures.found c.in-Whole.is

pub returns-in-Whole-clause-spends : goal.returns-in-Whole-clause-spends
returns-in-Whole-clause-spends c = whole-hard_not c.args.deck.now c.new-case.result.deck (ap (λ (s : OnWay). s.deck) c.new-case.ensures ∙ c.copy.ensures) c.args.turns c.search.new.track c.in_ok-search.field-0 c.in_ok-search.ensures.found c.in-Whole.is

pub returns-in-Refuted-clause-refutes : goal.returns-in-Refuted-clause-refutes
returns-in-Refuted-clause-refutes c = refuted c.args.deck.now c.new-case.result.deck (ap (λ (s : OnWay). s.deck) c.new-case.ensures ∙ c.copy.ensures) c.args.turns c.search.new.track c.in_ok-search.field-0 c.in_ok-search.ensures.found c.in-Refuted.marks c.in-Refuted.is

pub returns-in-Refuted-clause-spends : goal.returns-in-Refuted-clause-spends
returns-in-Refuted-clause-spends c = refuted-hard_not c.args.deck.now c.new-case.result.deck (ap (λ (s : OnWay). s.deck) c.new-case.ensures ∙ c.copy.ensures) c.args.turns c.search.new.track c.in_ok-search.field-0 c.in_ok-search.ensures.found c.in-Refuted.marks c.in-Refuted.is

pub returns-clause-refutes : goal.returns-clause-refutes
returns-clause-refutes c = spent-refutes_not c.args.deck.now c.new-case.result.deck (ap (λ (s : OnWay). s.deck) c.new-case.ensures ∙ c.copy.ensures) c.args.turns c.search.new.track c.in_ok-search.field-0 c.in_ok-search.ensures.found c.in-Spent.is
