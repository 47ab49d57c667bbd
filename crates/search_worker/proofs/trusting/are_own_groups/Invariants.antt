use Rattle.std.proofs.Common.{◌<◌, ℕ, slice_index_or}
use Rattle.book_rules.specs.Book.{no_group}
use Rattle.search_worker.specs.Owning.{IsOwnGroup}
use Rattle.search_worker.proofs.trusting.are_own_groups.Given as goal

abbrev pub invariant-loop-group : goal.invariant-loop-group
invariant-loop-group l = (k : ℕ) → k < l.group-index → IsOwnGroup l.instance l.first l.most (slice_index_or l.line k no_group)
