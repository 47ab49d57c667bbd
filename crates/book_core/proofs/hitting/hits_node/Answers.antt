use Rattle.std.proofs.Common.{◌<◌, sym, subst, length, All}
use Rattle.lock_model.specs.declared.group.Group.{Group}
use Rattle.lock_rules.proofs.NodeLemmas.{line-known}
use Rattle.book_core.proofs.hitting.hits_node.Goals as goal

pub hits_line-requires-clause-ships_in : goal.hits_line-requires-clause-ships_in
hits_line-requires-clause-ships_in c =
    let I = c.args.instance.now in
    let same = c.line.ensures.value in
    subst (All (λ (g : Group). All (λ s. s < length I.ships) g.ships)) (sym same) (line-known I c.args.node.now.depth c.args.node.now.lines c.requires c.loop-chamber.chamber)
