use Rattle.book_rules.specs.Events.{post}
use Rattle.solve_workers.proofs.DeskLemmas.{stays_held}
use Rattle.solve_workers.proofs.DrivenLemmas.{driven_does}
use Rattle.solve_workers.proofs.PriceLemmas.{posted_slots, still_holds}
use Rattle.solve_workers.proofs.offering.DriversDeskDesk.post.Goals as goal

pub returns-clause-holds : goal.returns-clause-holds
returns-clause-holds g c =
    let b = c.args.book.now in
    let new = c.post.new.self in
    let id = c.args._held.now.id in
    let node = c.args._held.now.node.now in
    stays_held b new c.args._held.now (still_holds b new id node (posted_slots b c.args.cut c.post.result new c.post.ensures))
    (driven_does b (post c.args.cut) c.post.result new c.keeps.ensures c.is_cut.ensures tt c.post.ensures)
