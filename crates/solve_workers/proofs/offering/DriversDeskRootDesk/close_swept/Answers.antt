use Rattle.std.proofs.Common.{sym, ◌∙◌}
use Rattle.book_rules.specs.Events.{close_swept}
use Rattle.book_core.specs.Telling.{told_swept}
use Rattle.book_core.proofs.SweepingLemmas.{swept-owed}
use Rattle.solve_workers.proofs.DeskLemmas.{ends_held}
use Rattle.solve_workers.proofs.DrivenLemmas.{driven_by}
use Rattle.solve_workers.proofs.PriceLemmas.{swept_shut, swept_kept}
use Rattle.solve_workers.proofs.offering.DriversDeskRootDesk.close_swept.Goals as goal

pub returns-clause-ends : goal.returns-clause-ends
returns-clause-ends g c =
    let b = c.args.book.now in
    let new = c.close_swept.new.self in
    let id = c.args.held.now.id in
    let node = c.args.held.now.node.now in
    let swept = told_swept c.args.swept.now in
    ends_held b new c.args.held.now c.is_closed.result
    (λ closed. swept_shut b id node c.args.number swept c.close_swept.result new c.close_swept.ensures (sym c.is_closed.ensures ∙ closed))
    (λ refused. swept_kept b id node c.args.number swept c.close_swept.result new c.close_swept.ensures (sym c.is_closed.ensures ∙ refused))
    (driven_by b (close_swept id c.args.number swept) c.close_swept.result new c.keeps.ensures (swept-owed c.args.swept.now c.cost.ensures.swept) tt c.close_swept.ensures)
