use Rattle.std.proofs.Common.{sym, ◌∙◌}
use Rattle.book_rules.specs.Events.{close_price}
use Rattle.book_core.specs.Telling.{told_shown}
use Rattle.book_core.proofs.ShowingLemmas.{reached-shown}
use Rattle.solve_workers.proofs.DeskLemmas.{ends_held}
use Rattle.solve_workers.proofs.DrivenLemmas.{driven_by}
use Rattle.solve_workers.proofs.PriceLemmas.{price_shut, price_kept}
use Rattle.solve_workers.proofs.offering.DriversDeskDesk.close_shown.Goals as goal

pub returns-clause-ends : goal.returns-clause-ends
returns-clause-ends g c =
    let b = c.args.book.now in
    let new = c.close_price.new.self in
    let id = c.args.held.now.id in
    let node = c.args.held.now.node.now in
    let shown = told_shown c.args.shown.now in
    ends_held b new c.args.held.now c.is_closed.result
    (λ closed. price_shut b id node c.args.number shown c.close_price.result new c.close_price.ensures (sym c.is_closed.ensures ∙ closed))
    (λ refused. price_kept b id node c.args.number shown c.close_price.result new c.close_price.ensures (sym c.is_closed.ensures ∙ refused))
    (driven_by b (close_price id c.args.number shown) c.close_price.result new c.keeps.ensures (reached-shown c.args.shown.now c.cost.ensures.reached) tt c.close_price.ensures)
