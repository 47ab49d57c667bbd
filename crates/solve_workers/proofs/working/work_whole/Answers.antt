use Rattle.std.proofs.Common.{sym, subst}
use Rattle.master_branch.specs.Node.{IsNodeOf}
use Rattle.lock_rules.specs.Node.{Node}
use Rattle.node_work.specs.Fates.{IsAnyway}
use Rattle.node_work.specs.Known.{HitsShips}
use Rattle.solve_workers.specs.Holds.{node_at}
use Rattle.solve_workers.proofs.HeldLemmas.{search_node, own_anyway}
use Rattle.solve_workers.proofs.working.work_whole.Goals as goal

pub whole_fate-requires-clause-node : goal.whole_fate-requires-clause-node
whole_fate-requires-clause-node g c =
    let b = c.args.book.now in
    let search = c.args.driver.now.search in
    subst (λ (n : Node). IsNodeOf search.instance.now n) (sym c.held_node-node.ensures)
    (search_node b c.args.id (node_at b c.args.id) c.requires.holds c.keeps.ensures search c.requires.own)

pub end-requires-clause-fate : goal.end-requires-clause-fate
end-requires-clause-fate g c =
    let b = c.args.book.now in
    let search = c.args.driver.now.search in
    own_anyway b search (node_at b c.args.id) c.in_ok-fate.fate c.requires.own
    (subst (λ (n : Node). IsAnyway (HitsShips b search.instance.now) search.instance.now search.turns n c.in_ok-fate.fate) c.held_node-node.ensures c.in_ok-fate.ensures)
