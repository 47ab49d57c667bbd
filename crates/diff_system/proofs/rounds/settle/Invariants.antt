use Rattle.std.proofs.Common.{◌≤◌, length}
use Rattle.diff_system.specs.PathTree.{IsPathTree}
use Rattle.diff_system.specs.Rounds.{IsReady}
use Rattle.diff_system.proofs.rounds.settle.Given as goal

abbrev pub invariant-loop-round : goal.invariant-loop-round
invariant-loop-round l = record {
  is_tree : IsPathTree l.edges l.vars l.paths;
  known : l.first ≤ length l.edges;
  ready : IsReady l.edges l.paths l.first l._round;
}
