use Rattle.std.proofs.Common.{sym, arith}
use Rattle.cert_text.proofs.PlanLemmas.{too_long, items_read, items_none}
use Rattle.cert_text.proofs.plan.plan_items.Goals as goal

pub returns-then-list-most-clause-fault : goal.returns-then-list-most-clause-fault
returns-then-list-most-clause-fault c = sym (too_long c.args.most c.args.list.now c.if-list-most.true)

pub returns-clause-read : goal.returns-clause-read
returns-clause-read c =
    let low = c.if-list-most.false in
    items_read c.args.most c.args.list.now c.all_in.result _ (omega (arith, low)) c.all_in.ensures.read

pub returns-clause-fault : goal.returns-clause-fault
returns-clause-fault c = items_none c.args.most c.args.list.now c.all_in.result c.all_in.ensures.fault
