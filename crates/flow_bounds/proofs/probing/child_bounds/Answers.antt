use Rattle.std.proofs.Common.{◌≡◌, ◌+◌, map, sum_by, ap, ◌∙◌}
use Rattle.lock_rules.specs.Node.{times_held}
use Rattle.lock_rules.specs.Arrival.{next_ship, missing_ships}
use Rattle.lock_rules.specs.Children.{children_by, children_of}
use Rattle.lock_rules.specs.Bound.{node_flow, bound_of, least_passage, least_number}
use Rattle.flow_bounds.proofs.ChildLemmas.{least-child}
use Rattle.flow_bounds.proofs.ProbeLemmas.{next-held}
use Rattle.flow_bounds.proofs.probing.child_bounds.Goals as goal

pub bounds_by-requires-clause-absent : goal.bounds_by-requires-clause-absent
bounds_by-requires-clause-absent c =
    let I = c.args.instance.now in
    let n = c.args.node.now in
    ap (λ s. times_held s n.lines) (c.ship-ship.ensures.value ∙ ap (next_ship I) c.depth.ensures.value) ∙ next-held I n.depth n.lines c.requires.node c.requires.lacks

pub returns-clause-probe : goal.returns-clause-probe
returns-clause-probe c =
    let I = c.args.instance.now in
    let n = c.args.node.now in
    let ship : c.ship-ship.result ≡ next_ship I n.depth = c.ship-ship.ensures.value ∙ ap (next_ship I) c.depth.ensures.value in
    let rest : c.rest-rest.result ≡ sum_by (least_passage I) (missing_ships I (n.depth + 1)) = c.rest-rest.ensures.value ∙ ap (λ k. sum_by (least_passage I) (missing_ships I (k + 1))) c.depth-2.ensures.value in
    let value : c.bounds_by.new.bounds ≡ map (bound_of I (n.depth + 1)) (children_of I n.depth n.lines) = c.bounds_by.ensures.value ∙ (λ i. map (λ lines. node_flow I lines + rest i) (children_by I (ship i) n.lines)) in
    ap least_number value ∙ least-child I n.depth n.lines c.requires.node c.requires.lacks
