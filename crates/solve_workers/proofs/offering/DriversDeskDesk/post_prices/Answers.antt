use Rattle.book_rules.specs.Events.{post_prices}
use Rattle.solve_workers.proofs.DeskLemmas.{stays_held}
use Rattle.solve_workers.proofs.DrivenLemmas.{driven_does}
use Rattle.solve_workers.proofs.PriceLemmas.{priced_slots, still_holds}
use Rattle.solve_workers.proofs.offering.DriversDeskDesk.post_prices.Goals as goal

pub returns-clause-holds : goal.returns-clause-holds
returns-clause-holds g c =
    let b = c.args.book.now in
    let new = c.post_prices-reply.new.self in
    let id = c.args._held.now.id in
    let node = c.args._held.now.node.now in
    let prices = c.args.prices.now in
    stays_held b new c.args._held.now (still_holds b new id node (priced_slots b prices c.post_prices-reply.result new c.post_prices-reply.ensures))
    (driven_does b (post_prices prices) c.post_prices-reply.result new c.keeps.ensures c.are_prices.ensures tt c.post_prices-reply.ensures)
