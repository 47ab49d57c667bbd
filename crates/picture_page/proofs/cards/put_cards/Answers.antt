use Rattle.std.proofs.Common.{◌++◌, get_or, ap, ◌∙◌, subst, sym}
use Rattle.plan_print.proofs.TextLemmas.{flat_map_take_more}
use Rattle.picture_page.specs.Cards.{card_of}
use Rattle.picture_page.specs.KnownPassages.{IsKnown}
use Rattle.picture_page.proofs.cards.put_cards.Goals as goal

pub put_card_of-requires : goal.put_card_of-requires
put_card_of-requires c =
    subst (IsKnown c.args.instance.now c.args.plan.now) (sym c.passage-item.is)
    (c.requires c.loop-passage.passage-index c.passage-item.result c.loop-passage-test.true)

pub loop-passage-preserved : goal.loop-passage-preserved
loop-passage-preserved c =
    let shown = card_of c.args.instance.now c.args.plan.now c.args.clock in
    let xs = c.args.passages.now in
    let i = c.loop-passage.passage-index in
    c.in_ok-put_card_of.ensures
    ∙ ap (λ s. c.loop-passage.out.items ++ shown s) c.passage-item.is
    ∙ ap (λ t. t ++ shown (get_or xs i c.passage-item.result)) c.loop-passage.invariant
    ∙ flat_map_take_more shown c.args.out.now.items xs i c.passage-item.result c.loop-passage-test.true
