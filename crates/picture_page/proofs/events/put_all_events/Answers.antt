use Rattle.std.proofs.Common.{◌++◌, get_or, ap, ◌∙◌, subst, sym}
use Rattle.plan_print.proofs.TextLemmas.{flat_map_take_more}
use Rattle.picture_page.specs.Passages.{passage_events}
use Rattle.picture_page.specs.KnownPassages.{HasChamber}
use Rattle.picture_page.proofs.events.put_all_events.Goals as goal

pub put_passage_events-requires : goal.put_passage_events-requires
put_passage_events-requires c =
    (subst (HasChamber c.args.instance.now) (sym c.passage-item.is) (c.requires c.loop-passage.passage-index c.passage-item.result c.loop-passage-test.true)).chamber

pub loop-passage-preserved : goal.loop-passage-preserved
loop-passage-preserved c =
    let shown = passage_events c.args.instance.now in
    let xs = c.args.passages.now in
    let i = c.loop-passage.passage-index in
    c.in_ok-put_passage_events.ensures
    ∙ ap (λ s. c.loop-passage.events.items ++ shown s) c.passage-item.is
    ∙ ap (λ t. t ++ shown (get_or xs i c.passage-item.result)) c.loop-passage.invariant
    ∙ flat_map_take_more shown c.args.events.now.items xs i c.passage-item.result c.loop-passage-test.true
