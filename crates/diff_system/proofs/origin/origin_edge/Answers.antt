use Rattle.std.proofs.Common.{◌≡◌, length, ap, subst, sym, ◌∙◌, arith}
use Rattle.std.proofs.lemmas.List.{get_or_default}
use Rattle.diff_rules.specs.Differences.{edge_at, no_edge}
use Rattle.diff_system.specs.PathTree.{IsOriginEdge}
use Rattle.diff_system.proofs.origin.origin_edge.Goals as goal

pub unreachable-requires : goal.unreachable-requires
unreachable-requires c =
    let edges = c.args.edges.now in
    let given = c.requires.system.reached c.args.variable c.requires.some c.requires.below in
    let e = given.0 in
    let k = given.1.0 in
    let same : edge_at edges k ≡ e = get_or_default edges k no_edge e given.1.1 ∙ given.1.2 in
    let long = ap length c.as_slice-number-end.ensures.value in
    let past = c.loop-number-test.false in
    let within = given.1.1 in
    c.loop-number.invariant k (omega (arith, long, past, within)) (subst (λ f. IsOriginEdge f c.args.variable) (sym same) (record { from = given.2; to = given.3; weight = given.4 }))
