use Rattle.std.proofs.Common.{◌≡◌, ℕ, ◌<◌, false}
use Rattle.book_rules.specs.Book.{slot_at, is_live}
use Rattle.book_certificate.proofs.live.first_live.Given as goal

abbrev pub invariant-loop-id : goal.invariant-loop-id
invariant-loop-id l = (k : ℕ) → k < l.id → is_live (slot_at l.book k).state ≡ false
