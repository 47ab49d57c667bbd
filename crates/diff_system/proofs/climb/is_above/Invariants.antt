use Rattle.std.proofs.Common.{◌<◌}
use Rattle.diff_system.specs.PathTree.{IsAbove, depth_of}
use Rattle.diff_system.proofs.climb.is_above.Given as goal

abbrev pub invariant-loop-at : goal.invariant-loop-at
invariant-loop-at l = record {
  known : l.at < l.vars;
  up : IsAbove l.edges l.paths.parents l.ancestor l.at → IsAbove l.edges l.paths.parents l.ancestor l.variable;
  down : IsAbove l.edges l.paths.parents l.ancestor l.variable → IsAbove l.edges l.paths.parents l.ancestor l.at;
}

abbrev pub decreases-loop-at : goal.decreases-loop-at
decreases-loop-at l = depth_of l.edges l.paths.parents 17 l.at
