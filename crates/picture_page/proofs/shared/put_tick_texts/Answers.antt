use Rattle.std.proofs.Common.{None, ◌++◌, get_or, ap, ◌∙◌}
use Rattle.plan_print.proofs.TextLemmas.{flat_map_take_more}
use Rattle.picture_page.specs.Shared.{tick_text}
use Rattle.picture_page.specs.declared.ticks.Tick.{Tick}
use Rattle.picture_page.proofs.shared.put_tick_texts.Goals as goal

pub loop-tick-preserved : goal.loop-tick-preserved
loop-tick-preserved c =
    let shown = tick_text c.args.clock in
    let xs = c.args.ticks.now in
    let i = c.loop-tick.tick-index in
    let first : Tick = record { minute = 0; x = 0; label = None } in
    c.in_ok-put_tick_text.ensures
    ∙ ap (λ t. t ++ shown (get_or xs i first)) c.loop-tick.invariant
    ∙ flat_map_take_more shown c.args.out.now.items xs i first c.loop-tick-test.true
