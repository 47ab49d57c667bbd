use Rattle.std.proofs.Common.{◌≡◌, ◌<◌, length, get_or, ap, subst, ◌∙◌, arith}
use Rattle.refute_rules.specs.declared.choices.Decision.{Decision}
use Rattle.refute_rules.specs.declared.choices.Decision.TheVariants.{BerthOf}
use Rattle.refute_rules.specs.declared.choices.Choice.TheVariants.{Before}
use Rattle.refute_rules.specs.Choices.{options_of}
use Rattle.place_refute.specs.Drawn.{Drawn}
use Rattle.place_refute.specs.Walking.{next_of, IsChildAt, HasNoChildAt}
use Rattle.place_refute.proofs.DrawnLemmas.{drawn_room}
use Rattle.place_refute.proofs.ReadLemmas.{past_end, leaf_some, leaf_none, split_some, split_none, children_more, children_stop}
use Rattle.place_refute.proofs.tree.+tree.Goals as goal

pub child_end-push-requires-clause-edges : goal.child_end-push-requires-clause-edges
child_end-push-requires-clause-edges t c =
    let few = c.requires.reading.few in
    let room = c.requires.room in
    drawn_room c.args.reading.now.deck.now c.args.case.now c.requires.drawn c.requires.reading.ships (omega (arith, few, room))

pub children_end-returns-in-None-clause-none : goal.children_end-returns-in-None-clause-none
children_end-returns-in-None-clause-none t c =
    let d = c.args.reading.now.deck.now in
    let trees = c.args.reading.now.trees in
    let list = c.args.reading.now.decisions.now in
    let case = c.args.case.now.choices in
    let marks = c.args.reading.now.marks.now in
    let number = c.loop-number.number in
    let choice = c.option_at-choice.result in
    let asked : c.at-decision.result ≡ next_of list case = c.at-decision.ensures ∙ ap (λ k. get_or list k (BerthOf 0)) c.len.ensures in
    let counted : number < length (options_of d c.at-decision.result) = let test = c.loop-number-test.true in let count = c.option_count-count.ensures.count in omega (arith, test, count) in
    let here : number < length (options_of d (next_of list case)) = subst (λ (u : Decision). number < length (options_of d u)) asked counted in
    let same : choice ≡ get_or (options_of d (next_of list case)) number (Before 0 0) = c.option_at-choice.ensures.value ∙ ap (λ (u : Decision). get_or (options_of d u) number (Before 0 0)) asked in
    let child : HasNoChildAt d trees list case marks choice c.loop-number.end = subst (λ (u : Drawn). HasNoChildAt d trees list u.choices marks choice c.loop-number.end) c.loop-number.invariant.kept c.in-None.ensures.none in
    children_stop d trees list case marks c.args.first number c.loop-number.end choice here same c.loop-number.invariant.children child

pub children_end-loop-number-preserved : goal.children_end-loop-number-preserved
children_end-loop-number-preserved t c =
    let d = c.args.reading.now.deck.now in
    let trees = c.args.reading.now.trees in
    let list = c.args.reading.now.decisions.now in
    let case = c.args.case.now.choices in
    let marks = c.args.reading.now.marks.now in
    let number = c.loop-number.number in
    let choice = c.option_at-choice.result in
    let asked : c.at-decision.result ≡ next_of list case = c.at-decision.ensures ∙ ap (λ k. get_or list k (BerthOf 0)) c.len.ensures in
    let counted : number < length (options_of d c.at-decision.result) = let test = c.loop-number-test.true in let count = c.option_count-count.ensures.count in omega (arith, test, count) in
    let here : number < length (options_of d (next_of list case)) = subst (λ (u : Decision). number < length (options_of d u)) asked counted in
    let same : choice ≡ get_or (options_of d (next_of list case)) number (Before 0 0) = c.option_at-choice.ensures.value ∙ ap (λ (u : Decision). get_or (options_of d u) number (Before 0 0)) asked in
    let child : IsChildAt d trees list case marks choice c.loop-number.end c.in-Some.next = subst (λ (u : Drawn). IsChildAt d trees list u.choices marks choice c.loop-number.end c.in-Some.next) c.loop-number.invariant.kept c.in-Some.ensures.some in
    record {
      kept = c.in-Some.ensures.kept ∙ c.loop-number.invariant.kept;
      children = children_more d trees list case marks c.args.first number c.loop-number.end c.in-Some.next choice here same c.loop-number.invariant.children child;
    }

pub tree_end-returns-then-at-reading-clause-none : goal.tree_end-returns-then-at-reading-clause-none
tree_end-returns-then-at-reading-clause-none t c = past_end c.args.reading.now.deck.now c.args.reading.now.trees c.args.reading.now.decisions.now c.args.case.now.choices c.args.reading.now.marks.now c.args.at c.if-at-reading.true

pub tree_end-returns-then-reading-at-ne0-clause-some : goal.tree_end-returns-then-reading-at-ne0-clause-some
tree_end-returns-then-reading-at-ne0-clause-some t c = leaf_some c.args.reading.now.deck.now c.args.reading.now.trees c.args.reading.now.decisions.now c.args.case.now.choices c.args.reading.now.marks.now c.args.at c.leaf_end.result c.leaf_end.ensures.some

pub tree_end-returns-then-reading-at-ne0-clause-none : goal.tree_end-returns-then-reading-at-ne0-clause-none
tree_end-returns-then-reading-at-ne0-clause-none t c = leaf_none c.args.reading.now.deck.now c.args.reading.now.trees c.args.reading.now.decisions.now c.args.case.now.choices c.args.reading.now.marks.now c.args.at c.leaf_end.result c.if-at-reading.false c.if-reading-at-ne0.true c.leaf_end.ensures.none

pub tree_end-returns-clause-some : goal.tree_end-returns-clause-some
tree_end-returns-clause-some t c =
    let less : length c.args.case.now.choices < length c.args.reading.now.decisions.now = omega arith in
    split_some c.args.reading.now.deck.now c.args.reading.now.trees c.args.reading.now.decisions.now c.args.case.now.choices c.args.reading.now.marks.now c.args.at c.children_end.result c.if-at-reading.false c.if-reading-at-ne0.false less c.children_end.ensures.some

pub tree_end-returns-clause-none : goal.tree_end-returns-clause-none
tree_end-returns-clause-none t c =
    let less : length c.args.case.now.choices < length c.args.reading.now.decisions.now = omega arith in
    split_none c.args.reading.now.deck.now c.args.reading.now.trees c.args.reading.now.decisions.now c.args.case.now.choices c.args.reading.now.marks.now c.args.at c.children_end.result c.if-at-reading.false c.if-reading-at-ne0.false less c.children_end.ensures.none
