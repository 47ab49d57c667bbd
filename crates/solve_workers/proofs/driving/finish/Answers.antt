use Rattle.std.proofs.Common.{length, ◌∙◌, arith}
use Rattle.book_rules.specs.Cheap.{opening_cost}
use Rattle.solve_workers.proofs.DrivenLemmas.{driven_cost, driven_then}
use Rattle.solve_workers.proofs.TidyLemmas.{tidied_ends}
use Rattle.solve_workers.proofs.driving.finish.Goals as goal

pub returns-in_err-drive_nodes-clause-case : goal.returns-in_err-drive_nodes-clause-case
returns-in_err-drive_nodes-clause-case g c = c.drive_nodes.ensures.driven.case

pub returns-in_err-drive_nodes-clause-opening : goal.returns-in_err-drive_nodes-clause-opening
returns-in_err-drive_nodes-clause-opening g c = driven_cost c.args.book.now c.drive_nodes.new.book c.drive_nodes.ensures.driven

pub returns-clause-ends : goal.returns-clause-ends
returns-clause-ends g c =
    let old = c.args.book.now in
    let mid = c.drive_nodes.new.book in
    let new = c.close_parked.new.book in
    let same = driven_cost old new (driven_then old mid new c.drive_nodes.ensures.driven c.close_parked.ensures.driven) in
    tidied_ends new (length new.slots) (opening_cost old) (omega arith) (omega (arith, same)) c.close_parked.ensures.tidied

pub returns-clause-case : goal.returns-clause-case
returns-clause-case g c = c.close_parked.ensures.driven.case ∙ c.drive_nodes.ensures.driven.case

pub returns-clause-opening : goal.returns-clause-opening
returns-clause-opening g c =
    driven_cost c.args.book.now c.close_parked.new.book
    (driven_then c.args.book.now c.drive_nodes.new.book c.close_parked.new.book c.drive_nodes.ensures.driven c.close_parked.ensures.driven)

pub returns-clause-driven : goal.returns-clause-driven
returns-clause-driven g c = driven_then c.args.book.now c.drive_nodes.new.book c.close_parked.new.book c.drive_nodes.ensures.driven c.close_parked.ensures.driven
