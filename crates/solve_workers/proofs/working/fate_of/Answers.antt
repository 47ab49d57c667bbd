use Rattle.std.proofs.Common.{sym, subst}
use Rattle.master_branch.specs.Node.{IsNodeOf}
use Rattle.lock_rules.specs.Node.{Node}
use Rattle.node_work.specs.Fates.{IsFate}
use Rattle.node_work.specs.Known.{HitsShips}
use Rattle.solve_workers.specs.Holds.{node_at}
use Rattle.solve_workers.proofs.HeldLemmas.{search_node, search_lacks, search_least, own_fate}
use Rattle.solve_workers.proofs.working.fate_of.Goals as goal

pub invariant_of-probed-clause-node_is : goal.invariant_of-probed-clause-node_is
invariant_of-probed-clause-node_is g c =
    let b = c.args.book.now in
    let search = c.args.driver.now.search in
    subst (λ (n : Node). IsNodeOf search.instance.now n) (sym c.held_node-node.ensures)
    (search_node b c.args.id (node_at b c.args.id) c.requires.holds c.keeps.ensures search c.requires.own)

pub invariant_of-probed-clause-lacks : goal.invariant_of-probed-clause-lacks
invariant_of-probed-clause-lacks g c = search_lacks c.args.book.now c.args.id c.args.driver.now.search c.requires.own c.held_node-node.result.now c.held_node-node.ensures c.requires.lacks

pub invariant_of-probed-clause-least_is : goal.invariant_of-probed-clause-least_is
invariant_of-probed-clause-least_is g c = search_least c.args.book.now c.args.id c.args.driver.now.search c.requires.own c.held_node-node.result.now c.args.least c.held_node-node.ensures c.requires.least

pub returns-clause-fate : goal.returns-clause-fate
returns-clause-fate g c =
    let b = c.args.book.now in
    let search = c.args.driver.now.search in
    own_fate b search (node_at b c.args.id) c.args.best c.in_ok-fate.fate c.requires.own c.requires.best
    (subst (λ (n : Node). IsFate (HitsShips b search.instance.now) search.instance.now search.turns c.args.best n c.in_ok-fate.fate) c.held_node-node.ensures c.in_ok-fate.ensures.fate)
