use Rattle.std.proofs.Common.{◌≡◌, ◌<◌, ◌≤◌, ℕ}
use Rattle.book_core.specs.Next.{stored_at}
use Rattle.book_core.specs.Outdone.{outdone_stored}
use Rattle.book_core.proofs.replacing.outdo.Given as goal

abbrev pub invariant-loop-id : goal.invariant-loop-id
invariant-loop-id l = record {
  done : (k : ℕ) → k < l.id → stored_at l.slots k ≡ outdone_stored l.cost (stored_at l.initial.slots k);
  left : (k : ℕ) → l.id ≤ k → stored_at l.slots k ≡ stored_at l.initial.slots k;
}
