use Rattle.std.proofs.Common.{◌≡◌, ◌+◌, ap, subst, arith, sum_by}
use Rattle.lock_rules.specs.Arrival.{missing_ships}
use Rattle.lock_rules.specs.Bound.{bound_of, least_passage, IsLowerBound}
use Rattle.lock_rules.proofs.SplitLemmas.{bound-holds}
use Rattle.flow_bounds.specs.Whole.{IsWholeCost}
use Rattle.flow_bounds.proofs.WholeLemmas.{bound-whole}
use Rattle.flow_bounds.proofs.node_bound.bound.Goals as goal

pub returns-clause-holds : goal.returns-clause-holds
returns-clause-holds c =
    let I = c.args.instance.now in
    let n = c.args.node.now in
    let missing = ap (λ k. sum_by (least_passage I) (missing_ships I k)) c.depth.ensures.value in
    let value : bound_of I n.depth n.lines ≡ c.node_flow.result + c.passages_from.result = omega (arith, c.node_flow.ensures.value, c.passages_from.ensures.value, missing) in
    subst (IsLowerBound I n.depth n.lines) value (bound-holds I n.depth n.lines)

pub returns-clause-whole : goal.returns-clause-whole
returns-clause-whole c =
    let I = c.args.instance.now in
    let n = c.args.node.now in
    let missing = ap (λ k. sum_by (least_passage I) (missing_ships I k)) c.depth.ensures.value in
    let value : bound_of I n.depth n.lines ≡ c.node_flow.result + c.passages_from.result = omega (arith, c.node_flow.ensures.value, c.passages_from.ensures.value, missing) in
    subst (IsWholeCost I n.depth n.lines) value (bound-whole I n.depth n.lines c.requires.node)
