use Rattle.std.proofs.Common.{◌<◌, ℕ}
use Rattle.lock_rules.specs.Node.{line_at}
use Rattle.search_worker.specs.Owning.{IsOwnLine}
use Rattle.search_worker.proofs.trusting.are_own_lines.Given as goal

abbrev pub invariant-loop-chamber : goal.invariant-loop-chamber
invariant-loop-chamber l = (k : ℕ) → k < l.chamber → IsOwnLine l.instance l.first k (line_at l.node.lines k)
