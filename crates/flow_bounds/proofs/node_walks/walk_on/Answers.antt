use Rattle.std.proofs.Common.{◌<◌, All, length, sym, subst}
use Rattle.lock_rules.proofs.NodeLemmas.{line-known}
use Rattle.lock_model.specs.declared.group.Group.{Group}
use Rattle.flow_bounds.proofs.node_walks.walk_on.Goals as goal

pub walk_along-requires-clause-ships_in : goal.walk_along-requires-clause-ships_in
walk_along-requires-clause-ships_in c =
    let I = c.args.instance.now in
    let same = c.line.ensures.value in
    subst (All (λ (g : Group). All (λ s. s < length I.ships) g.ships)) (sym same) (line-known I c.args.node.now.depth c.args.node.now.lines c.requires.node c.args.chamber)
