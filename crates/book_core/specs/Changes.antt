-- What changes of the slots where one of them takes another state.
use Rattle.std.specs.Prelude.{ℕ, Bool, ◌≡◌, ◌≢◌, ◌<◌, true, false, drop, List, [], ◌∷◌, length, slice_index_or, slice_set, Some, None}
use Rattle.std.specs.declared.option.Option.{Option}
use Rattle.book_rules.specs.declared.book.SlotState.{SlotState}
use Rattle.book_rules.specs.declared.book.SlotState.TheVariants as slot
use Rattle.book_rules.specs.declared.book.Entry.TheVariants as entry
use Rattle.book_rules.specs.Book.{Book, Slot, no_slot, slot_at, first_slot, is_fresh, is_back, is_held}
use Rattle.book_rules.specs.Step.{noted, with_state}
use Rattle.book_core.specs.Tables.{state_in}
use Rattle.closing_rules.specs.declared.grounds.Ground.TheVariants as by

abbrev pub slot_in : List Slot → ℕ → Slot
slot_in slots id = slice_index_or slots id no_slot

-- the slot but for its state
abbrev pub stateless : Slot → Slot
stateless s = record s { state = slot.Closed by.Bound }

-- slot id is in this state
abbrev pub set_state : List Slot → ℕ → SlotState → List Slot
set_state slots id state = slice_set slots id (record (slot_in slots id) { state = state })

-- the slots are the old ones, but for the state of one
pub record Changes (old : List Slot) (id : ℕ) (state : SlotState) (new : List Slot) : Type 0 where
  pub known : id < length old
  pub count : length new ≡ length old
  pub here : state_in new id ≡ state
  pub others : (k : ℕ) → k ≢ id → state_in new k ≡ state_in old k
  pub rest : (k : ℕ) → stateless (slot_in new k) ≡ stateless (slot_in old k)

-- the hands, where the slot leaves the one that holds it
abbrev pub let_go : {X : Type 0} → SlotState → List (Option X) → List (Option X)
let_go (slot.Held w) hands = slice_set hands w None
let_go _ hands = hands

-- closed or parked
pub record IsSettled (state : SlotState) : Type 0 where
  pub fresh : is_fresh state ≡ false
  pub back : is_back state ≡ false
  pub held : is_held state ≡ false

-- the list of Back slots, where the first one leaves it if it is Back
abbrev pub leave_back : SlotState → List ℕ → List ℕ
leave_back slot.Back back = drop 1 back
leave_back _ back = back

-- the first Back slot, or a Fresh one where none is Back
pub data IsNextFree (b : Book) (id : ℕ) : Type 0 where
  IsReturned : first_slot b is_back ≡ Some id → IsNextFree b id
  IsNew : first_slot b is_back ≡ None → (slot_at b id).state ≡ slot.Fresh → IsNextFree b id

-- the book where slot id has gone to worker w, and so many nodes are used
abbrev pub handed : Book → ℕ → ℕ → ℕ → Book
handed b id w used = noted (record (with_state b id (slot.Held w)) { used = used }) (entry.Take w)

-- the book where worker w has given slot id back and ended
abbrev pub returned : Book → ℕ → ℕ → Book
returned b id w = noted (record (with_state b id slot.Back) { ended = slice_set b.ended w true }) (entry.Release w)

-- the book where worker w has ended
abbrev pub finished : Book → ℕ → Book
finished b w = noted (record b { ended = slice_set b.ended w true }) (entry.Release w)

-- some hand isn't empty
abbrev pub has_some : {X : Type 0} → List (Option X) → Bool
has_some [] = false
has_some (None ∷ hands) = has_some hands
has_some (Some x ∷ hands) = true
