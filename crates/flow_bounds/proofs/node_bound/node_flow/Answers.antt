use Rattle.std.proofs.Common.{◌<◌, All, length, sym, subst}
use Rattle.lock_rules.proofs.NodeLemmas.{line-known}
use Rattle.lock_model.specs.declared.group.Group.{Group}
use Rattle.flow_bounds.proofs.node_bound.node_flow.Goals as goal

pub line_flow-sum-requires-clause-ships_in : goal.line_flow-sum-requires-clause-ships_in
line_flow-sum-requires-clause-ships_in c =
    let I = c.args.instance.now in
    let same = c.line.ensures.value in
    subst (All (λ (g : Group). All (λ s. s < length I.ships) g.ships)) (sym same) (line-known I c.args.node.now.depth c.args.node.now.lines c.requires c.loop-chamber.chamber)
