use Rattle.std.proofs.Common.{◌++◌, get_or, ap, ◌∙◌}
use Rattle.plan_print.proofs.TextLemmas.{flat_map_take_more}
use Rattle.picture_page.specs.Ground.{turn_of}
use Rattle.picture_page.proofs.ground.put_turns.Goals as goal

pub loop-passage-preserved : goal.loop-passage-preserved
loop-passage-preserved c =
    let shown = turn_of c.args.axis.now c.args.long in
    let xs = c.args.line.now in
    let i = c.loop-passage.passage-index in
    c.in_ok-put_turn_ground.ensures
    ∙ ap (λ s. c.loop-passage.out.items ++ shown s) c.passage-item.is
    ∙ ap (λ t. t ++ shown (get_or xs i c.passage-item.result)) c.loop-passage.invariant
    ∙ flat_map_take_more shown c.args.out.now.items xs i c.passage-item.result c.loop-passage-test.true
