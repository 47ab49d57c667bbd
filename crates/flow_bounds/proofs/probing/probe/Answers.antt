use Rattle.std.proofs.Common.{◌≡◌, ◌+◌, ◌-◌, ◌≤◌, map, sum_by, arith, ap, ◌∙◌, sym, subst, add-zero, length}
use Rattle.lock_rules.specs.Arrival.{missing_ships}
use Rattle.lock_rules.specs.Children.{children_by}
use Rattle.lock_rules.specs.Plan.{times_in}
use Rattle.lock_rules.specs.Bound.{node_flow, least_passage, least_number, probe_of, IsLowerBound}
use Rattle.lock_rules.proofs.SplitLemmas.{probe-holds}
use Rattle.flow_bounds.proofs.ProbeLemmas.{missing-once, others-sum}
use Rattle.flow_bounds.specs.Most.{most_bound}
use Rattle.flow_bounds.proofs.probing.probe.Goals as goal

pub overflow_sub-others : goal.overflow_sub-others
overflow_sub-others c =
    let I = c.args.instance.now in
    let n = c.args.node.now in
    let once = missing-once I n.depth n.lines c.requires.node c.args.ship c.requires.missing.known c.requires.missing.absent in
    let missing = ap (λ k. sum_by (least_passage I) (missing_ships I k)) c.depth.ensures.value in
    omega (arith, others-sum (least_passage I) c.args.ship (missing_ships I n.depth) once, missing, c.passages_from.ensures.value, c.least_passage.ensures.value)

pub overflow_add-result : goal.overflow_add-result
overflow_add-result c = omega (arith, c.least.ensures.among most_bound c.bounds_by.ensures.small, c.passages_from.ensures.small)

value : (c : goal.After-least) → c.least.result + (c.passages_from.result - c.least_passage.result) ≡ probe_of c.args.instance.now c.args.node.now.depth c.args.node.now.lines c.args.ship
value c =
    let I = c.args.instance.now in
    let n = c.args.node.now in
    let once = missing-once I n.depth n.lines c.requires.node c.args.ship c.requires.missing.known c.requires.missing.absent in
    let missing = ap (λ k. sum_by (least_passage I) (missing_ships I k)) c.depth.ensures.value in
    let plain : map (λ lines. node_flow I lines + 0) (children_by I c.args.ship n.lines) ≡ map (node_flow I) (children_by I c.args.ship n.lines) = λ i. map (λ lines. add-zero (node_flow I lines) i) (children_by I c.args.ship n.lines) in
    let least : c.least.result ≡ least_number (map (node_flow I) (children_by I c.args.ship n.lines)) = c.least.ensures.value ∙ ap least_number (c.bounds_by.ensures.value ∙ plain) in
    omega (arith, least, others-sum (least_passage I) c.args.ship (missing_ships I n.depth) once, missing, c.passages_from.ensures.value, c.least_passage.ensures.value)

pub returns-clause-value : goal.returns-clause-value
returns-clause-value c = value c

pub returns-clause-holds : goal.returns-clause-holds
returns-clause-holds c =
    let I = c.args.instance.now in
    let n = c.args.node.now in
    let once : times_in (missing_ships I n.depth) c.args.ship ≡ 1 = missing-once I n.depth n.lines c.requires.node c.args.ship c.requires.missing.known c.requires.missing.absent in
    let room : length I.chambers ≤ length n.lines = omega (arith, c.requires.node.four, I.limits.chamber_count.1) in
    subst (IsLowerBound I n.depth n.lines) (sym (value c)) (probe-holds I n.depth n.lines c.args.ship room (omega (arith, once)))
