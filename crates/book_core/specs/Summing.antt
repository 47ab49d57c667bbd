-- What is known of the slots that aren't done with.
use Rattle.std.specs.Prelude.{ℕ, List, map, filter}
use Rattle.book_rules.specs.Book.{is_live, low_by}
use Rattle.book_core.specs.declared.stored_slot.StoredSlot.{StoredSlot}

-- of the open, held and parked slots
abbrev pub live_lows : List StoredSlot → List ℕ
live_lows slots = map (λ s. low_by s.bound s.shown) (filter (λ s. is_live s.state) slots)
