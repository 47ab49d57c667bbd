-- What the driver holds.
use Rattle.std.specs.Prelude.{ℕ, ◌≡◌, ◌≢◌, ◌<◌, ◌⊎◌, false, slice_index_or}
use Rattle.lock_model.specs.declared.limits.TheConstants.{WORKERS}
use Rattle.book_rules.specs.Book.{Book, slot_at, best_cost, is_held}
use Rattle.lock_rules.specs.Node.{Node}
use Rattle.book_rules.specs.declared.book.SlotState.TheVariants as slot
use Rattle.book_rules.specs.Ends.{HoldsNothing, HasNothingOpen, HasSpentNodes}

-- the driver holds this slot alone, and its node is this
pub record HoldsOnly (b : Book) (id : ℕ) (node : Node) : Type 0 where
  pub held : (slot_at b id).state ≡ slot.Held WORKERS
  pub others : (k : ℕ) → k ≢ id → is_held (slot_at b k).state ≡ false
  pub node_is : (slot_at b id).node ≡ node

-- the driver, whose number is that behind the workers', hasn't released
pub record IsRunning (b : Book) : Type 0 where
  pub running : slice_index_or b.ended WORKERS false ≡ false

-- the bound of each parked slot before slot n is below the best cost
pub record AreCheapBelow (b : Book) (n : ℕ) : Type 0 where
  pub cheap : (id c p : ℕ) → id < n → (slot_at b id).state ≡ slot.Parked c p → (slot_at b id).bound < best_cost b

-- nothing is open, or the nodes are spent
pub record IsDone (b : Book) : Type 0 where
  pub left : HasNothingOpen b ⊎ HasSpentNodes b

-- the driver has come to the end, and the parked slots before this one are cheap
pub record IsTidied (b : Book) (n : ℕ) : Type 0 where
  pub free : HoldsNothing b
  pub done : IsDone b
  pub parked : AreCheapBelow b n
