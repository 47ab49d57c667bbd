use Rattle.std.proofs.Common.{◌+◌, ◌-◌, ◌≤◌, length}
use Rattle.book_rules.specs.Book.{slot_at}
use Rattle.book_rules.specs.Family.{child_count}
use Rattle.book_certificate.proofs.marks.children_end.Given as goal

abbrev pub invariant-loop-end : goal.invariant-loop-end
invariant-loop-end l = record { low : l.first ≤ l.end; high : l.end ≤ l.first + child_count l.book.case.instance (slot_at l.book l.id).node }

abbrev pub decreases-loop-end : goal.decreases-loop-end
decreases-loop-end l = length l.book.slots - l.end
