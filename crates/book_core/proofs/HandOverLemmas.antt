-- A slot goes to a worker, or comes back from one.
use Rattle.std.proofs.Common.{◌≡◌, ◌≢◌, ℕ, ◌<◌, ◌≤◌, List, [], ◌∷◌, ◌++◌, length, refl, sym, ap, ◌∙◌, subst, arith, Bool, true, false, slice_index_or, slice_set, Some, None}
use Rattle.std.specs.declared.option.Option.{Option}
use Rattle.lock_model.specs.declared.limits.TheConstants.{WORKERS, WORKERS_AND_DRIVER}
use Rattle.lock_rules.specs.Children.{insert_number}
use Rattle.lock_rules.proofs.TreeLemmas.{length-insert_number}
use Rattle.book_rules.specs.declared.book.Entry.{Entry}
use Rattle.book_rules.specs.declared.book.Entry.TheVariants as entry
use Rattle.book_rules.specs.declared.book.SlotState.{SlotState}
use Rattle.book_rules.specs.declared.book.SlotState.TheVariants as slot
use Rattle.book_rules.specs.Book.{Book, Slot, slot_at, first_slot, is_back, is_held, is_held_by}
use Rattle.book_rules.specs.NextSlot.{is_split}
use Rattle.book_rules.proofs.SlotLemmas.{back-is, held_by-is, first_slot-at}
use Rattle.book_rules.proofs.TallyLemmas.{count_false-set}
use Rattle.book_core.specs.declared.book.Book.TheInside.{Inside}
use Rattle.book_core.specs.declared.stored_slot.StoredSlot.{StoredSlot}
use Rattle.book_core.specs.declared.waiting.Waiting.{Waiting}
use Rattle.book_core.specs.Stored.{slots_of}
use Rattle.book_core.specs.Tables.{state_in, AreHands, AreBack}
use Rattle.book_core.specs.Changes.{Changes, set_state, let_go, leave_back, IsNextFree, IsReturned, IsNew, handed, returned}
use Rattle.book_core.specs.Keeps.{AreTables}
use Rattle.book_core.specs.Seen.{seen}
use Rattle.book_core.proofs.HandLemmas.{set-changes, state-known, hands-given, hands-let_go, first-held}
use Rattle.book_core.proofs.BackLemmas.{first-back, first-taken, fewer-back, back-kept, back-given}
use Rattle.book_core.proofs.WaitingLemmas.{settles, waiting-kept}
use Rattle.book_core.proofs.KeptLemmas.{stored-change}
use Rattle.book_core.proofs.SettleLemmas.{restated}
use Rattle.closing_rules.specs.declared.grounds.Ground.TheVariants as by

fresh-open : slot.Fresh ≢ slot.Closed by.Bound
fresh-open e = cc

-- a free slot is Back or Fresh
free-state : (b : Book) (id : ℕ) (P : SlotState → Type 0) → IsNextFree b id → P slot.Back → P slot.Fresh → P (slot_at b id).state
free-state b id P (IsReturned first) back fresh = subst P (sym (back-is (slot_at b id).state (first_slot-at b is_back id first).1)) back
free-state b id P (IsNew none is) back fresh = subst P (sym is) fresh

pub free-known : (b : Book) (id : ℕ) → IsNextFree b id → id < length b.slots
free-known b id (IsReturned first) = (first_slot-at b is_back id first).0
free-known b id (IsNew none is) = state-known b.slots id (λ e. fresh-open (sym is ∙ e))

pub held-at : (b : Book) (id w : ℕ) → first_slot b (is_held_by w) ≡ Some id → (slot_at b id).state ≡ slot.Held w
held-at b id w first = held_by-is w (slot_at b id).state (first_slot-at b (is_held_by w) id first).1

pub holder-at : (b : Book) (id w : ℕ) → first_slot b (is_held_by w) ≡ Some id → id < length b.slots
holder-at b id w first = (first_slot-at b (is_held_by w) id first).0

-- where a slot is Back the list isn't empty
pub not-empty : (b : Book) (back : List ℕ) → AreBack b.slots back → (id : ℕ) → state_in b.slots id ≡ slot.Back → back ≢ []
not-empty b [] good id is none = good.all id is
not-empty b (x ∷ xs) good id is none = clash none
  where
    clash : x ∷ xs ≡ [] → ⊥
    clash h = cc

module _ (b : Book) (ended : List Bool) (hands : List (Option ℕ)) (back : List ℕ) (waiting : List Waiting) (tables : AreTables b.slots ended hands back waiting) (new : List Slot) (id w : ℕ) where
  back-left : Changes b.slots id (slot.Held w) new → IsNextFree b id → AreBack new (leave_back (state_in b.slots id) back)
  back-left change (IsReturned first) =
      subst (λ s. AreBack new (leave_back s back)) (sym (back-is (slot_at b id).state (first_slot-at b is_back id first).1))
      (first-taken b.slots new id (slot.Held w) change back tables.back_are (first-back b back tables.back_are ∙ first) refl)
  back-left change (IsNew none is) =
      subst (λ s. AreBack new (leave_back s back)) (sym is)
      (back-kept b.slots new id (slot.Held w) change back tables.back_are (ap is_back is) refl)

  fewer : (s : SlotState) → length (leave_back s back) ≤ length back
  fewer slot.Back = fewer-back back
  fewer slot.Fresh = omega arith
  fewer (slot.Held v) = omega arith
  fewer (slot.Parked c p) = omega arith
  fewer (slot.Split first) = omega arith
  fewer (slot.Closed why) = omega arith

  -- a free slot goes to a worker who holds none
  pub tables-given : Changes b.slots id (slot.Held w) new → IsNextFree b id → w ≤ WORKERS → first_slot b (is_held_by w) ≡ None → AreTables new ended (slice_set hands w (Some id)) (leave_back (state_in b.slots id) back) waiting
  tables-given change free known empty =
      let less = fewer (state_in b.slots id) in
      let few = tables.few in
      record {
        hands_are = hands-given b.slots new id w change hands tables.hands_are known (first-held b hands w tables.hands_are ∙ empty) (free-state b id (λ s. is_held s ≡ false) free refl refl);
        back_are = back-left change free;
        few = omega (arith, less, few);
        waiting_are = waiting-kept b.slots new (settles b.slots new id (slot.Held w) change refl (free-state b id (λ s. is_split s ≡ false) free refl refl)) waiting tables.waiting_are;
      }

  -- a worker gives back the slot that it holds, and ends
  pub tables-returned : Changes b.slots id slot.Back new → first_slot b (is_held_by w) ≡ Some id → w < length ended → slice_index_or ended w false ≡ false
      → AreTables new (slice_set ended w true) (slice_set hands w None) (insert_number id back) waiting
  tables-returned change held known running =
      let is = held-at b id w held in
      let count = count_false-set ended w known running in
      let more = length-insert_number id back in
      let few = tables.few in
      record {
        hands_are = subst (λ s. AreHands new (let_go s hands)) is (hands-let_go b.slots new id slot.Back change hands tables.hands_are refl);
        back_are = back-given b.slots new id change back tables.back_are (ap is_back is);
        few = omega (arith, few, more, count);
        waiting_are = waiting-kept b.slots new (settles b.slots new id slot.Back change refl (ap is_split is)) waiting tables.waiting_are;
      }

  pub room-back : w < length ended → slice_index_or ended w false ≡ false → length back < WORKERS_AND_DRIVER
  room-back known running = let count = count_false-set ended w known running in let few = tables.few in omega (arith, few, count)

  pub tables-ended : w < length ended → slice_index_or ended w false ≡ false → AreTables b.slots (slice_set ended w true) hands back waiting
  tables-ended known running =
      let count = count_false-set ended w known running in
      let few = tables.few in
      record { hands_are = tables.hands_are; back_are = tables.back_are; few = omega (arith, few, count); waiting_are = tables.waiting_are }

-- ---- the slot that was given

module _ (b : Book) (id w used : ℕ) (free : IsNextFree b id) (new : Book) (is : new ≡ handed b id w used) where
  change : Changes b.slots id (slot.Held w) (set_state b.slots id (slot.Held w))
  change = set-changes b.slots id (slot.Held w) (free-known b id free)

  pub given-held : is_held (slot_at new id).state ≡ true
  given-held = ap (λ (u : Book). is_held (slot_at u id).state) is ∙ ap is_held change.here

  pub given-node : (slot_at new id).node ≡ (slot_at b id).node
  given-node = ap (λ (u : Book). (slot_at u id).node) is ∙ ap (λ (s : Slot). s.node) (change.rest id)

-- ---- what the fields show

module _ (a : Inside) (b : Book) (same : seen a ≡ b) (id w : ℕ) (r : StoredSlot) (is : r ≡ slice_index_or a.slots.items id r) (known : id < length a.slots.items) (history : List Entry) where
  pub handed-is : (used : ℕ) → history ≡ a.history.items ++ entry.Take w ∷ []
      → record (seen a) { slots = slots_of a.case.instance (slice_set a.slots.items id (restated r (slot.Held w))); used = used; history = history } ≡ handed b id w used
  handed-is used more =
      let slots = stored-change a.case.instance a.slots.items id r (slot.Held w) known is in
      (λ i. record (seen a) { slots = slots i; used = used; history = more i }) ∙ ap (λ u. handed u id w used) same

  pub returned-is : history ≡ a.history.items ++ entry.Release w ∷ []
      → record (seen a) { slots = slots_of a.case.instance (slice_set a.slots.items id (restated r slot.Back)); ended = slice_set a.ended w true; history = history } ≡ returned b id w
  returned-is more =
      let slots = stored-change a.case.instance a.slots.items id r slot.Back known is in
      (λ i. record (seen a) { slots = slots i; ended = slice_set a.ended w true; history = more i }) ∙ ap (λ u. returned u id w) same
