use Rattle.std.proofs.Common.{◌≡◌, ◌+◌, IsTrue, All, map, nat_le, sym, subst, rules}
use Rattle.lock_rules.specs.Children.{children_of}
use Rattle.lock_rules.specs.Bound.{bound_of}
use Rattle.flow_bounds.proofs.ChildLemmas.{reached-probe, probe-reached}
use Rattle.flow_bounds.proofs.reaching.children_reaching.Goals as goal

pub returns-clause-probe : goal.returns-clause-probe
returns-clause-probe c =
    let I = c.args.instance.now in
    let n = c.args.node.now in
    let value : c.reached_by.result ≡ map (λ lines. nat_le c.args.cost (bound_of I (n.depth + 1) lines)) (children_of I n.depth n.lines) = search rules in (
      λ all. reached-probe I n.depth n.lines c.requires.node c.requires.lacks c.args.cost (subst (All (λ r. IsTrue r)) value all),
      λ most. subst (All (λ r. IsTrue r)) (sym value) (probe-reached I n.depth n.lines c.requires.node c.requires.lacks c.args.cost most),
    )
