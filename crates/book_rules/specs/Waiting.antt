-- The slots that wait to be taken, in order.
use Rattle.std.specs.Prelude.{ℕ, ◌≡◌, ◌≢◌, ◌+◌, ◌<◌, ◌≤◌, length}
use Rattle.lock_model.specs.declared.limits.TheConstants.{WORKERS_AND_DRIVER}
use Rattle.book_rules.specs.declared.book.SlotState.TheVariants as slot
use Rattle.book_rules.specs.Book.{Book, slot_at, is_back}
use Rattle.book_rules.specs.Room.{count_slots, count_false}

-- slot id is Fresh, and a child of this parent
pub record IsFreshChild (b : Book) (parent id : ℕ) : Type 0 where
  pub known : id < length b.slots
  pub some : id ≢ 0
  pub fresh : (slot_at b id).state ≡ slot.Fresh
  pub below : (slot_at b id).parent ≡ parent

-- Of the Fresh children of this parent it has the least bound, and the smallest number on a tie.
pub record IsLeastFresh (b : Book) (parent id : ℕ) : Type 0 where
  pub child : IsFreshChild b parent id
  pub least : (other : ℕ) → IsFreshChild b parent other → (slot_at b id).bound ≤ (slot_at b other).bound
  pub tie : (other : ℕ) → IsFreshChild b parent other → other < id → (slot_at b id).bound < (slot_at b other).bound

-- No Fresh child stands below a split of a greater first child than this one's.
pub record IsLastSplit (b : Book) (parent first : ℕ) : Type 0 where
  pub split : (slot_at b parent).state ≡ slot.Split first
  pub last : (other p f : ℕ) → IsFreshChild b p other → (slot_at b p).state ≡ slot.Split f → f ≤ first

-- No more slots are Back than workers have ended.
pub record KeepsBack (b : Book) : Type 0 where
  pub few : count_slots is_back b.slots + count_false b.ended ≤ WORKERS_AND_DRIVER
