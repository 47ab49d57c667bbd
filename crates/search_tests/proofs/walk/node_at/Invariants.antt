use Rattle.master_branch.specs.Node.{IsNodeOf}
use Rattle.search_tests.proofs.walk.node_at.Given as goal

abbrev pub invariant-loop-i : goal.invariant-loop-i
invariant-loop-i l = IsNodeOf l.instance l.node
