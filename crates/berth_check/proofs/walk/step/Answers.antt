use Rattle.std.proofs.Common.{subst}
use Rattle.refute_rules.specs.BerthTrees.{OfBerth, OfOrder}
use Rattle.berth_check.specs.Fronts.{IsSplitUpTo}
use Rattle.berth_check.proofs.StepLemmas.{step_split}
use Rattle.berth_check.proofs.walk.step.Goals as goal

pub returns-in_ok-push_berths-in-Berth : goal.returns-in_ok-push_berths-in-Berth
returns-in_ok-push_berths-in-Berth c =
    let split = OfBerth c.in-Berth.ship in
    let front = subst (λ cs. IsSplitUpTo c.args.deck.now cs c.args.marks.now c.args.at split c.in-Berth.end) c.choices.ensures c.in-Berth.ensures in
    step_split c.args.deck.now c.args.pending.now.case c.args.pending.now.others c.push_berths.new.pending.others c.args.marks.now c.args.at split c.in-Berth.end c.requires.known c.requires.others front c.in_ok-push_berths-in-Berth.ensures

pub returns-in_ok-push_orders-in-Order : goal.returns-in_ok-push_orders-in-Order
returns-in_ok-push_orders-in-Order c =
    let split = OfOrder c.in-Order.i c.in-Order.j in
    let front = subst (λ cs. IsSplitUpTo c.args.deck.now cs c.args.marks.now c.args.at split c.in-Order.end) c.choices.ensures c.in-Order.ensures in
    step_split c.args.deck.now c.args.pending.now.case c.args.pending.now.others c.push_orders.new.pending.others c.args.marks.now c.args.at split c.in-Order.end c.requires.known c.requires.others front c.in_ok-push_orders-in-Order.ensures
