-- A held or parked slot is parked or closed.
use Rattle.std.proofs.Common.{◌≡◌, ℕ, ◌<◌, List, [], ◌∷◌, ◌++◌, length, sym, ap, ◌∙◌, subst, arith, true, ◌||◌, slice_index_or, slice_set}
use Rattle.lock_model.specs.declared.limits.TheConstants.{WORKERS_AND_DRIVER}
use Rattle.book_rules.specs.declared.book.Entry.{Entry}
use Rattle.book_rules.specs.declared.book.SlotState.{SlotState}
use Rattle.book_rules.specs.declared.book.SlotState.TheVariants as slot
use Rattle.book_rules.specs.Book.{Book, is_held, is_parked}
use Rattle.book_rules.specs.Step.{may_close, noted, with_state}
use Rattle.book_core.specs.declared.book.Book.TheInside.{Inside}
use Rattle.book_core.specs.declared.stored_slot.StoredSlot.{StoredSlot}
use Rattle.book_core.specs.Stored.{slots_of}
use Rattle.book_core.specs.Tables.{state_in}
use Rattle.book_core.specs.Changes.{Changes, let_go, IsSettled}
use Rattle.book_core.specs.Hands.{ids_of}
use Rattle.book_core.specs.Keeps.{AreTables}
use Rattle.book_core.specs.Seen.{seen, IsKept}
use Rattle.book_core.proofs.HandLemmas.{set-changes, hand-known}
use Rattle.book_core.proofs.KeptLemmas.{length-slots, is-stored, stored-change, leaving-known, tables-settled}
use Rattle.closing_rules.specs.declared.grounds.Ground.TheVariants as by

-- ---- one slot takes another state

-- what is stored once slot id has another state
abbrev pub restated : StoredSlot → SlotState → StoredSlot
restated r state = record { bound = r.bound; shown = r.shown; state = state; parent = r.parent; number = r.number }

module _ (a : Inside) (b : Book) (same : seen a ≡ b) (id : ℕ) where
  pub slots-known : id < length b.slots → id < length a.slots.items
  slots-known known = let count = ap (λ (u : Book). length u.slots) same in omega (arith, known, count, length-slots a.case.instance a.slots.items)

  module _ (r : StoredSlot) (is : r ≡ slice_index_or a.slots.items id r) (state : SlotState) where
    abbrev new_slots : List StoredSlot
    new_slots = slice_set a.slots.items id (restated r state)

    -- the book that the new fields show
    pub restated-is : (history : List Entry) (e : Entry) → id < length a.slots.items → history ≡ a.history.items ++ e ∷ []
        → record (seen a) { slots = slots_of a.case.instance new_slots; history = history } ≡ noted (with_state b id state) e
    restated-is history e known more =
        let slots = stored-change a.case.instance a.slots.items id r state known is in
        (λ i. record (seen a) { slots = slots i; history = more i }) ∙ ap (λ u. noted (with_state u id state) e) same

    pub restated-changes : id < length a.slots.items → Changes (slots_of a.case.instance a.slots.items) id state (slots_of a.case.instance new_slots)
    restated-changes known =
        subst (Changes (slots_of a.case.instance a.slots.items) id state) (sym (stored-change a.case.instance a.slots.items id r state known is))
        (set-changes (slots_of a.case.instance a.slots.items) id state (omega (arith, known, length-slots a.case.instance a.slots.items)))

    pub state-is : id < length a.slots.items → state_in (slots_of a.case.instance a.slots.items) id ≡ r.state
    state-is known = (is-stored a.case.instance a.slots.items id r known is).state

-- ---- from a hand or parked

module _ (a : Inside) (kept : IsKept a) (b : Book) (same : seen a ≡ b) (id : ℕ) (from : may_close b id ≡ true) where
  leaving : (is_held (state_in (slots_of a.case.instance a.slots.items) id) || is_parked (state_in (slots_of a.case.instance a.slots.items) id)) ≡ true
  leaving = subst (λ (u : Book). may_close u id ≡ true) (sym same) from

  pub settled-known : id < length a.slots.items
  settled-known = let known = leaving-known (slots_of a.case.instance a.slots.items) id leaving in omega (arith, known, length-slots a.case.instance a.slots.items)

  module _ (r : StoredSlot) (is : r ≡ slice_index_or a.slots.items id r) where
    -- a worker's number is one of nine
    pub holder-known : (w : ℕ) → r.state ≡ slot.Held w → w < WORKERS_AND_DRIVER
    holder-known w e =
        let in_hand = kept.tables.hands_are.hand w id (state-is a b same id r is (slot.Closed by.Bound) settled-known ∙ e) in
        let known = hand-known (ids_of a.hands) w id in_hand in
        omega (arith, known, kept.tables.hands_are.nine)

    pub settled-tables : (state : SlotState) → IsSettled state → AreTables (slots_of a.case.instance (slice_set a.slots.items id (restated r state))) a.ended (let_go r.state (ids_of a.hands)) a.back a.waiting.items
    settled-tables state to =
        subst (λ o. AreTables (slots_of a.case.instance (slice_set a.slots.items id (restated r state))) a.ended (let_go o (ids_of a.hands)) a.back a.waiting.items) (state-is a b same id r is (slot.Closed by.Bound) settled-known)
        (tables-settled (slots_of a.case.instance a.slots.items) (slots_of a.case.instance (slice_set a.slots.items id (restated r state))) id state a.ended (ids_of a.hands) a.back a.waiting.items
        (restated-changes a b same id r is state settled-known) kept.tables leaving to)
