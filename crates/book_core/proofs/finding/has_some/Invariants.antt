use Rattle.std.proofs.Common.{◌≡◌, ◌≤◌, length, drop}
use Rattle.book_core.specs.Changes.{has_some}
use Rattle.book_core.proofs.finding.has_some.Given as goal

abbrev pub decreases-loop-i : goal.decreases-loop-i
decreases-loop-i l = l.i

abbrev pub invariant-loop-i : goal.invariant-loop-i
invariant-loop-i l = record { within : l.i ≤ length l.hands; found : l.some ≡ has_some (drop l.i l.hands) }
