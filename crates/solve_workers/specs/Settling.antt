-- What the caller tests and does once all workers have ended.
use Rattle.std.specs.Prelude.{ℕ, ◌≡◌, ◌<◌, ◌≤◌, None}
use Rattle.lock_model.specs.declared.limits.TheConstants.{WORKERS}
use Rattle.book_rules.specs.declared.book.SlotState.TheVariants as slot
use Rattle.book_rules.specs.Book.{Book, Case, slot_at, first_slot, is_held_by}
use Rattle.book_rules.specs.Cheap.{opening_cost}
use Rattle.book_rules.specs.Ends.{HoldsNothing}
use Rattle.solve_workers.specs.Holding.{IsRunning}

-- The book is of this case and its opening plan costs this much. The driver has neither released nor holds a slot.
pub record IsOurs (case : Case) (cost : ℕ) (b : Book) : Type 0 where
  pub case_is : b.case ≡ case
  pub opening : opening_cost b ≡ cost
  pub running : IsRunning b
  pub empty : first_slot b (is_held_by WORKERS) ≡ None

-- what is held is held by workers from n on
pub record AreHeldFrom (n : ℕ) (b : Book) : Type 0 where
  pub from : (id w : ℕ) → (slot_at b id).state ≡ slot.Held w → (n ≤ w) × (w < WORKERS)

-- Slots were given back and nothing else: the case, all plans and cuts stay, and the driver hasn't released.
pub record IsGivenBack (old new : Book) : Type 0 where
  pub case : new.case ≡ old.case
  pub opening : new.opening ≡ old.opening
  pub best : new.best ≡ old.best
  pub cuts : new.cuts ≡ old.cuts
  pub running : IsRunning new

-- the same, and nothing is held
pub record IsFreed (old new : Book) : Type 0 where
  pub back : IsGivenBack old new
  pub free : HoldsNothing new
