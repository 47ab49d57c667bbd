-- What a book keeps of its workers.
use Rattle.std.specs.Prelude.{ℕ, ◌≡◌, ◌≤◌, false, length, slice_index_or}
use Rattle.lock_model.specs.declared.limits.TheConstants.{WORKERS, WORKERS_AND_DRIVER}
use Rattle.book_rules.specs.Book.{Book, slot_at}
use Rattle.book_rules.specs.declared.book.SlotState.TheVariants as slot

-- The driver is the last worker; each holds at most one slot, an ended one none.
pub record KeepsWorkers (b : Book) : Type 0 where
  pub nine : length b.ended ≡ WORKERS_AND_DRIVER
  pub known : (id w : ℕ) → (slot_at b id).state ≡ slot.Held w → w ≤ WORKERS
  pub running : (id w : ℕ) → (slot_at b id).state ≡ slot.Held w → slice_index_or b.ended w false ≡ false
  pub one : (id other w : ℕ) → (slot_at b id).state ≡ slot.Held w → (slot_at b other).state ≡ slot.Held w → id ≡ other
