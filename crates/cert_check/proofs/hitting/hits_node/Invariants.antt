use Rattle.std.proofs.Common.{ℕ, ◌<◌}
use Rattle.cert_check.specs.Hitting.{HitsAt}
use Rattle.cert_check.proofs.hitting.hits_node.Given as goal

abbrev pub invariant-loop-chamber : goal.invariant-loop-chamber
invariant-loop-chamber l = (k : ℕ) → k < l.chamber → ¬ HitsAt l.instance l.cut.chamber l.cut.ships l.node.lines k
