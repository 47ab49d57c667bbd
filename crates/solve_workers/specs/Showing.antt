-- What the caller makes of a book when it shows costs of the slots that a search has left.
use Rattle.std.specs.Prelude.{ℕ, ◌≡◌, length}
use Rattle.book_rules.specs.Book.{Book, slot_at}

-- At most prices were posted and costs shown of slots: the case, the plans, the used nodes, and each slot's state and bound stay.
pub record IsOnlyShown (old new : Book) : Type 0 where
  pub case : new.case ≡ old.case
  pub opening : new.opening ≡ old.opening
  pub best : new.best ≡ old.best
  pub used : new.used ≡ old.used
  pub count : length new.slots ≡ length old.slots
  pub states : (id : ℕ) → (slot_at new id).state ≡ (slot_at old id).state
  pub bounds : (id : ℕ) → (slot_at new id).bound ≡ (slot_at old id).bound
