-- The tables of a book, by which it finds slots without a walk.
use Rattle.std.specs.Prelude.{ℕ, ◌≡◌, ◌<◌, ◌≤◌, List, length, slice_index_or, Some, None}
use Rattle.std.specs.declared.option.Option.{Option}
use Rattle.lock_model.specs.declared.limits.TheConstants.{WORKERS_AND_DRIVER}
use Rattle.lock_model.specs.Ships.{RisesFrom}
use Rattle.list_laws.specs.Among.{IsAmong}
use Rattle.book_rules.specs.declared.book.SlotState.{SlotState}
use Rattle.book_rules.specs.declared.book.SlotState.TheVariants as slot
use Rattle.book_rules.specs.Book.{Slot, no_slot}
use Rattle.book_core.specs.declared.waiting.Waiting.{Waiting}

abbrev pub state_in : List Slot → ℕ → SlotState
state_in slots id = (slice_index_or slots id no_slot).state

abbrev pub hand_at : List (Option ℕ) → ℕ → Option ℕ
hand_at hands w = slice_index_or hands w None

-- hand w tells which slot worker w holds
pub record AreHands (slots : List Slot) (hands : List (Option ℕ)) : Type 0 where
  pub nine : length hands ≡ WORKERS_AND_DRIVER
  pub held : (w id : ℕ) → hand_at hands w ≡ Some id → state_in slots id ≡ slot.Held w
  pub hand : (w id : ℕ) → state_in slots id ≡ slot.Held w → hand_at hands w ≡ Some id

-- the Back slots by rising id
pub record AreBack (slots : List Slot) (back : List ℕ) : Type 0 where
  pub rising : RisesFrom 0 back
  pub each : (id : ℕ) → IsAmong back id → state_in slots id ≡ slot.Back
  pub all : (id : ℕ) → state_in slots id ≡ slot.Back → IsAmong back id

abbrev pub waiting_at : List Waiting → ℕ → Waiting
waiting_at waiting k = slice_index_or waiting k (record { split = 0; first = 0; end = 0 })

-- a split and the slots of its children; none of its Fresh children stands elsewhere
pub record IsWaiting (slots : List Slot) (w : Waiting) : Type 0 where
  pub split : state_in slots w.split ≡ slot.Split w.first
  pub within : w.end ≤ length slots
  pub child : (id : ℕ) → w.first ≤ id → id < w.end → (slice_index_or slots id no_slot).parent ≡ w.split
  pub order : w.first ≤ w.end
  pub only : (id : ℕ) → 0 < id → state_in slots id ≡ slot.Fresh → (slice_index_or slots id no_slot).parent ≡ w.split → (w.first ≤ id) × (id < w.end)

-- entry `place` has this slot among its children
pub record IsInEntry (waiting : List Waiting) (id place : ℕ) : Type 0 where
  pub known : place < length waiting
  pub from : (waiting_at waiting place).first ≤ id
  pub before : id < (waiting_at waiting place).end

-- Splits by rising first child, among them each that has a Fresh child.
pub record AreWaiting (slots : List Slot) (waiting : List Waiting) : Type 0 where
  pub each : (k : ℕ) → k < length waiting → IsWaiting slots (waiting_at waiting k)
  pub rising : (k l : ℕ) → k < l → l < length waiting → (waiting_at waiting k).first ≤ (waiting_at waiting l).first
  pub all : (id : ℕ) → 0 < id → state_in slots id ≡ slot.Fresh → (place : ℕ) × IsInEntry waiting id place
