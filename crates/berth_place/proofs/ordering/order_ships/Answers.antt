use Rattle.std.proofs.Common.{◌≡◌, [], length, rules, refl, sym, ap, ◌∙◌, subst, arith}
use Rattle.lock_model.specs.Deck.{IsDeck}
use Rattle.diff_rules.specs.Differences.{IsSystem}
use Rattle.berth_place.specs.declared.search.Search.{Search}
use Rattle.berth_place.specs.Along.{first_edges}
use Rattle.berth_place.specs.Known.{AreSoundShips}
use Rattle.berth_place.specs.Pairs.{ArePairs, AreAllPairs}
use Rattle.berth_place.specs.Visits.{IsOrdering}
use Rattle.berth_place.proofs.OrderingLemmas.{ordering_begun, ordering_system}
use Rattle.berth_place.proofs.VisitLemmas.{visit_same}
use Rattle.berth_place.proofs.ordering.order_ships.Goals as goal

pub of-solved-requires : goal.of-solved-requires
of-solved-requires c =
    let d = c.args.deck.now in
    let s = c.args.search.now in
    let limits : IsDeck d = search rules in
    let drawn : Search = record { case = s.case; edges = c.add_berths.new.edges; turns = s.turns; tried = s.tried; marks = s.marks; spots = s.spots } in
    let sound = subst (λ cs. AreSoundShips d cs (length d.ships)) c.choices.ensures c.in_default.ensures.none in
    let edges = c.add_berths.ensures.value ∙ ap (λ cs. first_edges d cs (length d.ships)) c.choices-choices.ensures in
    let ordering : IsOrdering d drawn = ordering_begun d s.case drawn limits c.requires.berthing.known c.requires.berthing.berths c.requires.decided sound refl edges c.requires.berthing.few in
    subst (IsSystem c.add_berths.new.edges) (sym c.place_count.ensures) (ordering_system d drawn ordering)

pub order_pairs-requires-clause-ordered : goal.order_pairs-requires-clause-ordered
order_pairs-requires-clause-ordered c =
    let d = c.args.deck.now in
    let s = c.args.search.now in
    let limits : IsDeck d = search rules in
    let drawn : Search = record { case = s.case; edges = c.add_berths.new.edges; turns = s.turns; tried = s.tried; marks = s.marks; spots = s.spots } in
    let sound = subst (λ cs. AreSoundShips d cs (length d.ships)) c.choices.ensures c.in_default.ensures.none in
    let edges = c.add_berths.ensures.value ∙ ap (λ cs. first_edges d cs (length d.ships)) c.choices-choices.ensures in
    let few = c.overlapping-pairs.ensures.few in
    let room = c.add_berths.ensures.room in
    record {
      ordering = ordering_begun d s.case drawn limits c.requires.berthing.known c.requires.berthing.berths c.requires.decided sound refl edges c.requires.berthing.few;
      pairs = subst (λ cs. ArePairs d cs c.overlapping-pairs.result.items) c.choices-choices.ensures c.overlapping-pairs.ensures.pairs;
      all = subst (λ cs. AreAllPairs d cs c.overlapping-pairs.result.items (length d.ships)) c.choices-choices.ensures c.overlapping-pairs.ensures.all;
      room = omega (arith, few, room);
    }

pub returns : goal.returns
returns c =
    let none : c.truncate.new.self ≡ [] = search rules in
    visit_same c.args.deck.now c.args.search.now _ c.order_pairs.new.search _ c.in_ok-visit.visit refl refl refl refl refl (none ∙ sym c.requires.berthing.edges) refl refl refl refl c.in_ok-visit.ensures
