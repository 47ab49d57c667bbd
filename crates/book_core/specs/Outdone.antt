-- What is stored of a slot once a cheaper plan is the best one.
use Rattle.std.specs.Prelude.{ℕ, Bool, ◌&&◌, ◌||◌, List, nat_le, if◌then◌else◌}
use Rattle.book_rules.specs.declared.book.SlotState.TheVariants as slot
use Rattle.book_rules.specs.Book.{is_fresh, is_back, is_parked}
use Rattle.book_core.specs.declared.stored_slot.StoredSlot.{StoredSlot}
use Rattle.book_core.specs.Next.{stored_at}
use Rattle.closing_rules.specs.declared.grounds.Ground.TheVariants as by

-- a Fresh, Back or Parked slot whose bound is at least the cost is closed
abbrev pub outdone_stored : ℕ → StoredSlot → StoredSlot
outdone_stored cost s =
    if (is_fresh s.state || is_back s.state || is_parked s.state) && nat_le cost s.bound then record s { state = slot.Closed by.Bound } else s

-- slot id is Back
abbrev pub is_back_in : List StoredSlot → ℕ → Bool
is_back_in slots id = is_back (stored_at slots id).state
