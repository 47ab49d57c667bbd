use Rattle.std.proofs.Common.{◌<◌, reverse}
use Rattle.diff_system.specs.PathTree.{IsAbove, depth_of}
use Rattle.diff_system.specs.Walks.{IsTail}
use Rattle.diff_system.proofs.climb.cycle_by.Given as goal

abbrev pub invariant-loop-at : goal.invariant-loop-at
invariant-loop-at l = record {
  known : l.at < l.vars;
  above : IsAbove l.edges l.paths.parents l.last.to l.at;
  tail : IsTail l.edges l.paths l.last.to l.at (reverse l.numbers);
}

abbrev pub decreases-loop-at : goal.decreases-loop-at
decreases-loop-at l = depth_of l.edges l.paths.parents 17 l.at
