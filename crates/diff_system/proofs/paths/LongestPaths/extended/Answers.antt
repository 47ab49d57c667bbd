use Rattle.std.proofs.Common.{subst, sym}
use Rattle.diff_rules.specs.Differences.{edge_at, Obeys}
use Rattle.diff_system.specs.PathTree.{IsPathTree}
use Rattle.diff_system.proofs.BeginLemmas.{taken-tree, longest-obeyed}
use Rattle.diff_system.proofs.paths.LongestPaths.extended.Goals as goal

pub settle-requires-clause-tree : goal.settle-requires-clause-tree
settle-requires-clause-tree c =
    subst (IsPathTree c.args.edges.now c.args.vars) (sym c.copy-paths.ensures) (taken-tree c.args.edges.now c.args.vars c.args.known c.args.self.now c.requires.known c.requires.longest.is_tree c.requires.system)

pub settle-requires-clause-obeyed : goal.settle-requires-clause-obeyed
settle-requires-clause-obeyed c =
    λ k less. subst (λ t. Obeys t.values (edge_at c.args.edges.now k)) (sym c.copy-paths.ensures) (longest-obeyed c.args.edges.now c.args.vars c.args.known c.args.self.now c.requires.known c.requires.longest k less)
