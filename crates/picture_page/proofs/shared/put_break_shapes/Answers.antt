use Rattle.std.proofs.Common.{◌++◌, get_or, ap, ◌∙◌}
use Rattle.plan_print.proofs.TextLemmas.{flat_map_take_more}
use Rattle.picture_page.specs.Shared.{break_at}
use Rattle.picture_page.proofs.shared.put_break_shapes.Goals as goal

pub loop-at-preserved : goal.loop-at-preserved
loop-at-preserved c =
    let shown = break_at c.args.axis.now c.args.top c.args.bottom in
    let xs = c.breaks-at-items.result.now in
    let i = c.loop-at.at-index in
    c.in_ok-put_break_at.ensures
    ∙ ap (λ t. t ++ shown (get_or xs i 0)) c.loop-at.invariant
    ∙ flat_map_take_more shown c.args.out.now.items xs i 0 c.loop-at-test.true
