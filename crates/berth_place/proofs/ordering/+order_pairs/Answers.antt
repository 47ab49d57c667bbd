use Rattle.std.proofs.Common.{◌≡◌, ◌<◌, ◌≤◌, List, ◌∷◌, [], ◌++◌, ℕ, length, take, slice_index_or, rules, IfOk, IfErr, refl, sym, ap, ◌∙◌, subst, arith}
use Rattle.std.specs.declared.result.Result.{Result}
use Rattle.diff_rules.specs.Differences.{IsSystem, IsSimpleCycle}
use Rattle.diff_system.specs.PathTree.{PathTree, AreLongest}
use Rattle.refute_rules.specs.declared.choices.Choice.{Choice}
use Rattle.refute_rules.specs.BerthTrees.{OfOrder, AreUnordered}
use Rattle.case_search.proofs.ListLemmas.{take-front}
use Rattle.berth_place.specs.declared.pairs.Pair.{Pair}
use Rattle.berth_place.specs.declared.search.Visit.TheVariants.{Closed}
use Rattle.berth_place.specs.Pairs.{pair, AreFirstApart}
use Rattle.berth_place.specs.Spotting.{AreSpotsSoFar}
use Rattle.berth_place.specs.Along.{order_edges}
use Rattle.berth_place.specs.Visits.{IsClosed, IsOptionClosed, IsOrderedOn, IsVisit, IsVisitOf, order_of}
use Rattle.berth_place.proofs.VisitLemmas.{option_closed, under_begun, under_more, under_whole, visit_over}
use Rattle.berth_place.proofs.OrderingLemmas.{no_places, placed_legal, pair_open, option_told, ordering_system, taken_known, taken_on}
use Rattle.berth_place.proofs.ordering.+order_pairs.Goals as goal

pub order_pairs-close-requires-clause-stands : goal.order_pairs-close-requires-clause-stands
order_pairs-close-requires-clause-stands t c =
    let edges = c.args.search.now.edges in
    let cycle : IsSimpleCycle edges c.in-Err.field-0 = subst (λ (r : Result PathTree (List ℕ)). IfErr r (IsSimpleCycle edges)) c.in-Err.is c.requires.cycle in
    no_places c.args.deck.now c.args.search.now c.requires.ordered.ordering c.in-Err.field-0 cycle

pub place_pairs-returns-in-None : goal.place_pairs-returns-in-None
place_pairs-returns-in-None t c =
    let d = c.args.deck.now in
    let s = c.args.search.now in
    let values = c.args.paths.now.values in
    let ps = c.args.pairs.now.items in
    let spots = c.spots_of-search.result in
    let read : c.as_slice-2.result.now ≡ ps = search rules in
    let drawn = subst (λ cs. AreSpotsSoFar d cs c.as_slice-in-None.result.now (length d.ships) spots) c.choices.ensures c.spots_of-search.ensures in
    let are = subst (λ vs. AreSpotsSoFar d s.case vs (length d.ships) spots) (c.as_slice-in-None.ensures.value ∙ c.values-in-None.ensures) drawn in
    let apart = subst (λ qs. AreFirstApart d values qs (length qs)) read (subst (λ vs. AreFirstApart d vs c.as_slice-2.result.now (length c.as_slice-2.result.now)) (c.as_slice.ensures.value ∙ c.values.ensures) c.in-None.ensures.none) in
    placed_legal d s c.requires.ordered.ordering c.args.paths.now c.requires.longest spots ps are c.requires.ordered.all apart

pub split_pair-loop-option-preserved : goal.split_pair-loop-option-preserved
split_pair-loop-option-preserved t c =
    let d = c.args.deck.now in
    let p : Pair = slice_index_or c.as_slice.result.now c.args.number (pair 0 0) in
    let split = OfOrder p.lower p.upper in
    let k = c.loop-option.option in
    let less : k < 2 = c.loop-option-test.true in
    let closed : c.in_ok-visit.visit ≡ Closed = search rules in
    let visit : IsOptionClosed d (order_of p k) c.loop-option.search c.try_order.new.search = subst (IsVisitOf d (order_of p k) c.loop-option.search c.try_order.new.search) closed c.in_ok-visit.ensures in
    under_more d c.args.search.now split k c.loop-option.search c.try_order.new.search less c.loop-option.invariant (subst (λ choice. IsOptionClosed d choice c.loop-option.search c.try_order.new.search) (sym (option_told d p k less)) visit)

pub split_pair-returns : goal.split_pair-returns
split_pair-returns t c =
    let d = c.args.deck.now in
    let s = c.args.search.now in
    let p : Pair = slice_index_or c.as_slice.result.now c.args.number (pair 0 0) in
    let read : c.as_slice.result.now ≡ c.args.pairs.now.items = search rules in
    let left_open = pair_open d s c.requires.ordered.ordering c.args.paths.now c.requires.longest c.args.pairs.now.items c.args.number c.requires.ordered.pairs c.requires.touching in
    let is_open : AreUnordered d s.case p.lower p.upper = subst (λ qs. AreUnordered d s.case (slice_index_or qs c.args.number (pair 0 0)).lower (slice_index_or qs c.args.number (pair 0 0)).upper) (sym read) left_open in
    let long : 2 ≤ c.loop-option.option = let test = c.loop-option-test.false in omega (arith, test) in
    under_whole d s (OfOrder p.lower p.upper) c.loop-option.option c.loop-option.search is_open long c.loop-option.invariant

pub try_order-take_order-requires-clause-lower : goal.try_order-take_order-requires-clause-lower
try_order-take_order-requires-clause-lower t c =
    let taken = c.requires.taken in
    let is = taken_known c.args.deck.now c.args.search.now taken.0 c.args.left.now.items taken.1 c.args.pair taken.2 in
    let rising = is.rising in
    let known = is.known in
    let few = c.requires.ordering.limits.count.1 in
    omega (arith, rising, known, few)

pub try_order-take_order-requires-clause-upper : goal.try_order-take_order-requires-clause-upper
try_order-take_order-requires-clause-upper t c =
    let taken = c.requires.taken in
    let is = taken_known c.args.deck.now c.args.search.now taken.0 c.args.left.now.items taken.1 c.args.pair taken.2 in
    let known = is.known in
    let few = c.requires.ordering.limits.count.1 in
    omega (arith, known, few)

pub try_order-extended-solved-requires-clause-system : goal.try_order-extended-solved-requires-clause-system
try_order-extended-solved-requires-clause-system t c =
    let d = c.args.deck.now in
    let taken = c.requires.taken in
    let counted = c.if-not-try_option.ensures in
    let on : IsOrderedOn d c.take_order.new.search c.args.left.now.items = taken_on d c.args.search.now c.try_option.new.search c.take_order.new.search taken.0 c.args.left.now.items taken.1 c.args.option c.args.pair c.requires.ordering taken.2 counted.0 counted.1 c.in_ok-take_order.ensures in
    subst (IsSystem c.take_order.new.search.edges) (sym c.place_count.ensures) (ordering_system d c.take_order.new.search on.ordering)

pub try_order-order_pairs-requires : goal.try_order-order_pairs-requires
try_order-order_pairs-requires t c =
    let d = c.args.deck.now in
    let taken = c.requires.taken in
    let counted = c.if-not-try_option.ensures in
    let on : IsOrderedOn d c.take_order.new.search c.args.left.now.items = taken_on d c.args.search.now c.try_option.new.search c.take_order.new.search taken.0 c.args.left.now.items taken.1 c.args.option c.args.pair c.requires.ordering taken.2 counted.0 counted.1 c.in_ok-take_order.ensures in
    let longest = subst (λ n. IfOk c.extended-solved.result (AreLongest c.take_order.new.search.edges n)) c.place_count.ensures c.extended-solved.ensures.longest in
    (search rules, (on, (longest, c.extended-solved.ensures.cycle)))

pub split_pair-loop-option-init : goal.split_pair-loop-option-init
split_pair-loop-option-init t c =
    let p : Pair = slice_index_or c.as_slice.result.now c.args.number (pair 0 0) in
    under_begun c.args.deck.now c.args.search.now (OfOrder p.lower p.upper) _ refl refl refl refl c.requires.ordered.ordering.few c.in_ok-write_split.ensures

pub split_pair-returns-then-ne : goal.split_pair-returns-then-ne
split_pair-returns-then-ne t c =
    let d = c.args.deck.now in
    let s = c.args.search.now in
    let p : Pair = slice_index_or c.as_slice.result.now c.args.number (pair 0 0) in
    let k = c.loop-option.option in
    let read : c.as_slice.result.now ≡ c.args.pairs.now.items = search rules in
    let left_open = pair_open d s c.requires.ordered.ordering c.args.paths.now c.requires.longest c.args.pairs.now.items c.args.number c.requires.ordered.pairs c.requires.touching in
    let is_open : AreUnordered d s.case p.lower p.upper = subst (λ qs. AreUnordered d s.case (slice_index_or qs c.args.number (pair 0 0)).lower (slice_index_or qs c.args.number (pair 0 0)).upper) (sym read) left_open in
    let less : k < 2 = c.loop-option-test.true in
    let differ : c.in_ok-visit.visit ≡ Closed → ⊥ = search rules in
    visit_over d (OfOrder p.lower p.upper) k s c.loop-option.search c.try_order.new.search c.in_ok-visit.visit differ is_open less c.loop-option.invariant
    (subst (λ choice. IsVisitOf d choice c.loop-option.search c.try_order.new.search c.in_ok-visit.visit) (sym (option_told d p k less)) c.in_ok-visit.ensures)

pub try_order-returns : goal.try_order-returns
try_order-returns t c =
    let d = c.args.deck.now in
    let old = c.args.search.now in
    let choice = order_of c.args.pair c.args.option in
    let counted = c.if-not-try_option.ensures.0 in
    let takes = c.in_ok-take_order.ensures in
    let inner = c.take_order.new.search in
    let after = c.order_pairs.new.search in
    let over : c.in_ok-visit.visit ≡ Closed = search rules in
    let closed : IsClosed d inner after = subst (IsVisit d inner after) over c.in_ok-visit.ensures in
    let back : c.truncate.new.self ≡ take (length old.case) after.case = c.truncate.ensures ∙ ap (λ n. take n after.case) (c.len-taken.ensures ∙ ap length counted.case) in
    let more = order_edges d (choice ∷ []) in
    let drawn = closed.on.edges ∙ takes.edges ∙ ap (λ es. es ++ more) counted.edges in
    let edges = c.truncate-2.ensures ∙ ap (λ n. take n after.edges) (ap length c.as_slice-known.ensures.value ∙ ap length counted.edges) ∙ ap (take (length old.edges)) drawn ∙ take-front old.edges more in
    option_closed d choice old inner after _ (takes.case ∙ ap (λ (cs : List Choice). cs ++ choice ∷ []) counted.case) (takes.marks ∙ counted.marks) (takes.turns ∙ counted.turns) (takes.tried ∙ counted.tried) closed back edges refl refl refl
