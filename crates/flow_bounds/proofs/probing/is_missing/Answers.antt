use Rattle.std.proofs.Common.{arith, ap, ◌∙◌, sym, length, slice_index_or}
use Rattle.lock_rules.specs.Arrival.{order_of}
use Rattle.flow_bounds.proofs.ProbeLemmas.{among-missing, other-held, rest-is}
use Rattle.flow_bounds.proofs.probing.is_missing.Goals as goal

pub returns-then-other-ship-clause-missing : goal.returns-then-other-ship-clause-missing
returns-then-other-ship-clause-missing c =
    let I = c.args.instance.now in
    let n = c.args.node.now in
    let i = c.loop-other.other-index in
    let same = rest-is c.as_slice.result.now (order_of I) c.depth.result n.depth (c.as_slice.ensures.value ∙ c.arrival_order-order.ensures.value) c.depth.ensures.value in
    among-missing I n.depth n.lines c.requires i c.args.ship (omega (arith, ap length same)) (ap (λ xs. slice_index_or xs i 0) (sym same) ∙ c.if-other-ship.true)

pub returns-clause-other : goal.returns-clause-other
returns-clause-other c =
    let I = c.args.instance.now in
    let n = c.args.node.now in
    let same = rest-is c.as_slice.result.now (order_of I) c.depth.result n.depth (c.as_slice.ensures.value ∙ c.arrival_order-order.ensures.value) c.depth.ensures.value in
    other-held I n.depth n.lines c.requires c.args.ship (λ i less e. c.loop-other.invariant i (omega (arith, less, ap length same)) (ap (λ xs. slice_index_or xs i 0) same ∙ e))
