use Rattle.std.proofs.Common.{vec_len}
use Rattle.book_core.specs.Stored.{slots_of}
use Rattle.book_core.specs.Tables.{AreWaiting}
use Rattle.book_core.proofs.waiting.next_waiting.Given as goal

abbrev pub decreases-loop-waiting : goal.decreases-loop-waiting
decreases-loop-waiting l = vec_len l.waiting

abbrev pub invariant-loop-waiting : goal.invariant-loop-waiting
invariant-loop-waiting l = AreWaiting (slots_of l.instance l.slots) l.waiting.items
