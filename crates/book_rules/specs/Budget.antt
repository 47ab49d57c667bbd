-- How many slots a book has.
use Rattle.std.specs.Prelude.{◌+◌, ◌*◌, ◌≤◌, Bool, ◌||◌, length}
use Rattle.lock_model.specs.declared.limits.TheConstants.{CHILDREN}
use Rattle.book_rules.specs.declared.book.SlotState.{SlotState}
use Rattle.book_rules.specs.Book.{Book, is_back, is_held, is_parked}
use Rattle.book_rules.specs.NextSlot.{is_split}
use Rattle.book_rules.specs.Room.{count_slots}

-- taken once, and not closed
abbrev pub is_taken : SlotState → Bool
is_taken state = is_split state || is_held state || is_back state || is_parked state

-- The budget of nodes isn't passed, the taken slots are paid for, and a split slot brings at most CHILDREN more.
pub record KeepsBudget (b : Book) : Type 0 where
  pub used : b.used ≤ b.case.nodes
  pub taken : count_slots is_taken b.slots ≤ b.used
  pub few : length b.slots ≤ 1 + CHILDREN * count_slots is_split b.slots
