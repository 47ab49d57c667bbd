use Rattle.std.proofs.Common.{◌≡◌, ◌<◌, subst, sym, arith}
use Rattle.std.proofs.lemmas.Grind.{common_steps}
use Rattle.diff_rules.specs.Differences.{edge_at}
use Rattle.diff_system.specs.PathTree.{above, depth_of, parent_at}
use Rattle.diff_system.proofs.TreeLemmas.{above-below, depth-falls}
use Rattle.diff_system.proofs.climb.variable_above.Goals as goal

pub returns : goal.returns
returns c =
    let edges = c.args.edges.now in
    let tree = c.args.paths.now in
    let is : (edge_at c.as_slice.result.now (parent_at c.parents.result.now c.args.variable)).from ≡ above edges tree.parents c.args.variable = grind (arith, common_steps) in
    record {
      value = is;
      below = subst (λ v. v < c.args.vars) (sym is) (above-below edges c.args.vars c.requires.system tree c.requires.tree.parent c.args.variable c.requires.below c.requires.away);
      shallower = subst (λ v. depth_of edges tree.parents 17 v < depth_of edges tree.parents 17 c.args.variable) (sym is) (depth-falls edges c.args.vars c.requires.system tree c.requires.tree c.args.variable c.requires.below c.requires.away);
    }
