use Rattle.std.proofs.Common.{◌≡◌, ◌<◌, ◌^◌}
use Rattle.lock_rules.specs.Size.{tree_width, node_limit}
use Rattle.master_branch.proofs.laws.node_limit.Given as goal

abbrev pub invariant-loop-depth : goal.invariant-loop-depth
invariant-loop-depth l = record {
  width : l.width ≡ tree_width l.chambers l.depth;
  limit : l.limit ≡ node_limit l.depth l.chambers;
  fits : l.limit < 2 ^ 128;
}
