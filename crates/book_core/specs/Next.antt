-- The Fresh slot that is taken next, by the list of waiting splits.
use Rattle.std.specs.Prelude.{ℕ, ◌≡◌, ◌≤◌, ◌<◌, List, slice_index_or, Some, None}
use Rattle.std.specs.declared.option.Option.{Option}
use Rattle.book_rules.specs.declared.book.SlotState.TheVariants as slot
use Rattle.book_rules.specs.Book.{Slot, no_slot}
use Rattle.book_core.specs.declared.waiting.Waiting.{Waiting}
use Rattle.book_core.specs.Tables.{state_in, IsWaiting}
use Rattle.book_core.specs.declared.stored_slot.StoredSlot.{StoredSlot}
use Rattle.closing_rules.specs.declared.grounds.Ground.TheVariants as by

abbrev pub stored_at : List StoredSlot → ℕ → StoredSlot
stored_at slots id = slice_index_or slots id (record { bound = 0; shown = None; state = slot.Closed by.Bound; parent = 0; number = 0 })

-- no slot from first up to end is Fresh
pub record HasNoFresh (slots : List StoredSlot) (first end : ℕ) : Type 0 where
  pub each : (id : ℕ) → first ≤ id → id < end → (stored_at slots id).state ≡ slot.Fresh → ⊥

-- the slot's bound is less than the other's, or equal, and then its number is less or the same
pub record IsNoWorse (slots : List StoredSlot) (id other : ℕ) : Type 0 where
  pub least : (stored_at slots id).bound ≤ (stored_at slots other).bound
  pub tie : other < id → (stored_at slots id).bound < (stored_at slots other).bound

-- Of the Fresh slots from first up to end it has the least bound, and the smallest number on a tie.
pub record IsLeastIn (slots : List StoredSlot) (first end id : ℕ) : Type 0 where
  pub from : first ≤ id
  pub before : id < end
  pub fresh : (stored_at slots id).state ≡ slot.Fresh
  pub best : (other : ℕ) → first ≤ other → other < end → (stored_at slots other).state ≡ slot.Fresh → IsNoWorse slots id other

abbrev pub IsLeastUpTo : List StoredSlot → ℕ → ℕ → Option ℕ → Type 0
IsLeastUpTo slots first end None = HasNoFresh slots first end
IsLeastUpTo slots first end (Some id) = IsLeastIn slots first end id

-- some waiting split has this slot among its children, and its first child is at most this one
pub record StandsBefore (slots : List Slot) (first id : ℕ) : Type 0 where
  pub entry : Waiting
  pub waits : IsWaiting slots entry
  pub from : entry.first ≤ id
  pub before : id < entry.end
  pub least : entry.first ≤ first

-- A Fresh child of a waiting split, the best of its children; no Fresh child stands below a split of a greater first child.
pub record IsNext (slots : List Slot) (id : ℕ) : Type 0 where
  pub entry : Waiting
  pub waits : IsWaiting slots entry
  pub from : entry.first ≤ id
  pub before : id < entry.end
  pub fresh : state_in slots id ≡ slot.Fresh
  pub least : (other : ℕ) → entry.first ≤ other → other < entry.end → state_in slots other ≡ slot.Fresh
      → (slice_index_or slots id no_slot).bound ≤ (slice_index_or slots other no_slot).bound
  pub tie : (other : ℕ) → entry.first ≤ other → other < entry.end → state_in slots other ≡ slot.Fresh → other < id
      → (slice_index_or slots id no_slot).bound < (slice_index_or slots other no_slot).bound
  pub last : (other : ℕ) → 0 < other → state_in slots other ≡ slot.Fresh → StandsBefore slots entry.first other

-- no slot but the root is Fresh
pub record HasNoneFresh (slots : List Slot) : Type 0 where
  pub each : (id : ℕ) → 0 < id → state_in slots id ≡ slot.Fresh → ⊥
