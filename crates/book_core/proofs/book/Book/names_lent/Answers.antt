use Rattle.std.proofs.Common.{◌≡◌, ◌<◌, length, sym, ap, ◌∙◌, subst, arith, All, true, false, ◌&&◌, nat_le, slice_index_or}
use Rattle.lock_model.specs.Fitting.{deck_of}
use Rattle.lock_model.specs.declared.group.Group.{Group}
use Rattle.lock_model.specs.declared.instance.Instance.{Instance}
use Rattle.book_rules.specs.Tests.{same_deck}
use Rattle.lock_rules.proofs.NodeLemmas.{line-known}
use Rattle.book_core.proofs.PostLemmas.{lent-some}
use Rattle.book_core.proofs.book.Book.names_lent.Goals as goal

pub deck_of-deck-requires-clause-ships_in : goal.deck_of-deck-requires-clause-ships_in
deck_of-deck-requires-clause-ships_in c =
    let b = c.args.self.now in
    let n = c.held_node-node.result.now in
    let same = c.line-line.ensures.value in
    let all : All (λ (g : Group). All (λ s. s < length b.case.instance.ships) g.ships) c.line-line.result.now =
    subst (All (λ (g : Group). All (λ s. s < length b.case.instance.ships) g.ships)) (sym same) (line-known b.case.instance n.depth n.lines c.held_node-node.ensures.node c.args.chamber) in
    subst (λ (I : Instance). All (λ s. s < length I.ships) (slice_index_or c.line-line.result.now c.args.place c.index-line-place.result).ships) (sym c.instance-2.ensures)
    (all c.args.place c.index-line-place.result (omega arith))

pub returns-then-same_deck : goal.returns-then-same_deck
returns-then-same_deck c =
    let b = c.args.self.now in
    let n = c.held_node-node.result.now in
    let line = c.line-line.result.now in
    let g = c.index-line-place.result in
    let told = c.args.hard.now in
    let same : same_deck (deck_of b.case.instance c.args.chamber g.ships) told.deck ≡ true =
    (λ i. same_deck (deck_of (sym c.instance-2.ensures i) c.args.chamber g.ships) (sym c.hard.view_is i).deck)
    ∙ (λ i. same_deck (deck_of c.instance-2.result.now c.args.chamber (ap (λ (h : Group). h.ships) c.index-line-place.is i)) c.hard.inside.deck)
    ∙ ap (λ d. same_deck d c.hard.inside.deck) (sym c.deck_of-deck.ensures) ∙ sym c.same_deck.ensures ∙ c.if-same_deck.true in
    (λ i. nat_le (c.turns.ensures i) (c.hard.view_is i).turns)
    ∙ sym (ap (λ t. t && nat_le b.case.turns told.turns) same)
    ∙ sym (lent-some b c.args.id c.args.chamber c.args.place told.deck told.turns n.lines n c.held_node-node.ensures.value line (c.line-line.ensures.value) g (omega arith) c.index-line-place.is)

pub returns-else-same_deck : goal.returns-else-same_deck
returns-else-same_deck c =
    let b = c.args.self.now in
    let n = c.held_node-node.result.now in
    let line = c.line-line.result.now in
    let g = c.index-line-place.result in
    let told = c.args.hard.now in
    let other : same_deck (deck_of b.case.instance c.args.chamber g.ships) told.deck ≡ false =
    (λ i. same_deck (deck_of (sym c.instance-2.ensures i) c.args.chamber g.ships) (sym c.hard.view_is i).deck)
    ∙ (λ i. same_deck (deck_of c.instance-2.result.now c.args.chamber (ap (λ (h : Group). h.ships) c.index-line-place.is i)) c.hard.inside.deck)
    ∙ ap (λ d. same_deck d c.hard.inside.deck) (sym c.deck_of-deck.ensures) ∙ sym c.same_deck.ensures ∙ c.if-same_deck.false in
    c.if-same_deck.false ∙ sym (ap (λ t. t && nat_le b.case.turns told.turns) other)
    ∙ sym (lent-some b c.args.id c.args.chamber c.args.place told.deck told.turns n.lines n c.held_node-node.ensures.value line (c.line-line.ensures.value) g (omega arith) c.index-line-place.is)
