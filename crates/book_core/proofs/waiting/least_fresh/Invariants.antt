use Rattle.std.proofs.Common.{◌≡◌, ◌<◌}
use Rattle.book_core.specs.Next.{IsLeastUpTo}
use Rattle.book_core.proofs.waiting.least_fresh.Given as goal

abbrev pub invariant-loop-id : goal.invariant-loop-id
invariant-loop-id l = record { least : IsLeastUpTo l.slots l.first l.id l.least; begun : l.end < l.first → l.id ≡ l.first }
