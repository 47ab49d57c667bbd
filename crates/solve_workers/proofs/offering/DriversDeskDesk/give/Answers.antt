use Rattle.book_rules.specs.Events.{replace}
use Rattle.solve_workers.proofs.DeskLemmas.{stays_held}
use Rattle.solve_workers.proofs.DrivenLemmas.{driven_does}
use Rattle.solve_workers.proofs.GrowLemmas.{replaced_holds}
use Rattle.solve_workers.proofs.offering.DriversDeskDesk.give.Goals as goal

pub returns-clause-holds : goal.returns-clause-holds
returns-clause-holds g c =
    let b = c.args.book.now in
    let new = c.replace.new.self in
    let id = c.args._held.now.id in
    let node = c.args._held.now.node.now in
    stays_held b new c.args._held.now (λ holds. replaced_holds b id node c.args.plan holds c.replace.result new c.replace.ensures)
    (driven_does b (replace c.args.plan) c.replace.result new c.keeps.ensures tt tt c.replace.ensures)
