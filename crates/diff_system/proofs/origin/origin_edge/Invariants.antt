use Rattle.std.proofs.Common.{ℕ, ◌<◌}
use Rattle.diff_rules.specs.Differences.{edge_at}
use Rattle.diff_system.specs.PathTree.{IsOriginEdge}
use Rattle.diff_system.proofs.origin.origin_edge.Given as goal

abbrev pub invariant-loop-number : goal.invariant-loop-number
invariant-loop-number l = (k : ℕ) → k < l.number → IsOriginEdge (edge_at l.edges k) l.variable → ⊥
