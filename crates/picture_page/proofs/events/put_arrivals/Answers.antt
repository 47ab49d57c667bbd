use Rattle.std.proofs.Common.{[], ◌∷◌, ◌++◌, get_or, ap, ◌∙◌}
use Rattle.plan_print.proofs.TextLemmas.{flat_map_take_more}
use Rattle.lock_model.specs.declared.ship.Ship.{Ship}
use Rattle.picture_page.proofs.events.put_arrivals.Goals as goal

pub loop-ship-preserved : goal.loop-ship-preserved
loop-ship-preserved c =
    let shown = λ (s : Ship). s.arrival ∷ [] in
    let xs = c.args.ships.now in
    let i = c.loop-ship.ship-index in
    c.in_ok-push.ensures.items
    ∙ ap (λ s. c.loop-ship.events.items ++ shown s) c.ship-item.is
    ∙ ap (λ t. t ++ shown (get_or xs i c.ship-item.result)) c.loop-ship.invariant
    ∙ flat_map_take_more shown c.args.events.now.items xs i c.ship-item.result c.loop-ship-test.true
