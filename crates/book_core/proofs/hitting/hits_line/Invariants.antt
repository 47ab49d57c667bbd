use Rattle.std.proofs.Common.{ℕ, ◌<◌, slice_index_or}
use Rattle.book_rules.specs.Book.{no_group}
use Rattle.book_core.specs.Hitting.{MissesGroup}
use Rattle.book_core.proofs.hitting.hits_line.Given as goal

abbrev pub invariant-loop-group : goal.invariant-loop-group
invariant-loop-group l = (k : ℕ) → k < l.group-index → MissesGroup l.cut l.instance l.chamber (slice_index_or l.line k no_group)
