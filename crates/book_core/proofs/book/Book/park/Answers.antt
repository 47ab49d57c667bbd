use Rattle.std.proofs.Common.{sym, ap, ◌∙◌, subst}
use Rattle.book_rules.specs.Tests.{has_clash}
use Rattle.refute_rules.specs.Cases.{IsHard}
use Rattle.deck_cuts.specs.Tried.{Tried}
use Rattle.book_core.proofs.PostLemmas.{park-missed, park-other, park-clashes, park-sound, park-done}
use Rattle.book_core.proofs.book.Book.park.Goals as goal

pub returns-then-not-is_held : goal.returns-then-not-is_held
returns-then-not-is_held c = park-missed c.args.self.now c.args.id c.args.chamber c.args.place c.args.hard.now.deck c.args.hard.now.turns (sym c.is_held.ensures.value ∙ c.if-not-is_held.true)

pub returns-then-not-names_lent : goal.returns-then-not-names_lent
returns-then-not-names_lent c =
    park-other c.args.self.now c.args.id c.args.chamber c.args.place c.args.hard.now.deck c.args.hard.now.turns (sym c.is_held.ensures.value ∙ c.if-not-is_held.false) (sym c.names_lent.ensures ∙ c.if-not-names_lent.true)

pub returns-then-deck_clashes : goal.returns-then-deck_clashes
returns-then-deck_clashes c =
    let tells = ap (λ (t : Tried). has_clash t.deck.ships) (sym c.hard.view_is) ∙ sym c.deck_clashes.ensures ∙ c.if-deck_clashes.true in
    park-clashes c.args.self.now c.args.id c.args.chamber c.args.place c.args.hard.now.deck c.args.hard.now.turns (sym c.is_held.ensures.value ∙ c.if-not-is_held.false) (sym c.names_lent.ensures ∙ c.if-not-names_lent.false) tells

pub settle-requires-clause-sound : goal.settle-requires-clause-sound
settle-requires-clause-sound c =
    let told = c.args.hard.now in
    let tells = ap (λ (t : Tried). has_clash t.deck.ships) (sym c.hard.view_is) ∙ sym c.deck_clashes.ensures ∙ c.if-deck_clashes.false in
    let hard : IsHard told.deck told.turns = subst (λ (t : Tried). IsHard t.deck t.turns) c.hard.view_is c.hard.invariant in
    park-sound c.args.self.now c.args.id c.args.chamber c.args.place told.deck told.turns c.is_held.ensures.sound (record { hard = hard; spot_hard = c.requires })
    (sym c.is_held.ensures.value ∙ c.if-not-is_held.false) (sym c.names_lent.ensures ∙ c.if-not-names_lent.false) tells

pub returns : goal.returns
returns c =
    let told = c.args.hard.now in
    let tells = ap (λ (t : Tried). has_clash t.deck.ships) (sym c.hard.view_is) ∙ sym c.deck_clashes.ensures ∙ c.if-deck_clashes.false in
    let hard : IsHard told.deck told.turns = subst (λ (t : Tried). IsHard t.deck t.turns) c.hard.view_is c.hard.invariant in
    park-done c.args.self.now c.args.id c.args.chamber c.args.place told.deck told.turns c.is_held.ensures.sound (record { hard = hard; spot_hard = c.requires })
    (sym c.is_held.ensures.value ∙ c.if-not-is_held.false) (sym c.names_lent.ensures ∙ c.if-not-names_lent.false) tells c.settle.new.self c.settle.ensures
