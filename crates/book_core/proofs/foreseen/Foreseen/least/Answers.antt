use Rattle.std.proofs.Common.{ap, ◌∙◌}
use Rattle.lock_rules.specs.Bound.{least_number}
use Rattle.flow_bounds.proofs.ChildLemmas.{least-child}
use Rattle.book_core.proofs.foreseen.Foreseen.least.Goals as goal

pub returns-clause-probe : goal.returns-clause-probe
returns-clause-probe c =
    let a = c.args.self.now in
    c.least.ensures.value ∙ ap least_number a.foreseen ∙ least-child a.instance.now a.node.depth a.node.lines a.node_is a.lacks
