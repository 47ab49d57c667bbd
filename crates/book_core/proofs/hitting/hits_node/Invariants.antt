use Rattle.std.proofs.Common.{ℕ, ◌<◌}
use Rattle.lock_rules.specs.Node.{line_at}
use Rattle.book_core.specs.Hitting.{MissesLine}
use Rattle.book_core.proofs.hitting.hits_node.Given as goal

abbrev pub invariant-loop-chamber : goal.invariant-loop-chamber
invariant-loop-chamber l = (k : ℕ) → k < l.chamber → MissesLine l.cut l.instance k (line_at l.node.lines k)
