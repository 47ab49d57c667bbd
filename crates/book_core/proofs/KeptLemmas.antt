-- What the fields of a book keep.
use Rattle.std.proofs.Common.{◌≡◌, ◌≢◌, ℕ, zero, suc, ◌+◌, ◌*◌, ◌<◌, ◌≤◌, List, [], ◌∷◌, length, refl, sym, ap, ◌∙◌, subst, arith, Bool, true, false, ◌||◌, slice_index_or, slice_set, nat_eq}
use Rattle.std.proofs.lemmas.Bool.{false≢true}
use Rattle.std.specs.declared.option.Option.{Option}
use Rattle.std.proofs.lemmas.Bool.Decides.{Decides-eqb}
use Rattle.lock_model.specs.declared.limits.TheConstants.{CHILDREN}
use Rattle.lock_model.specs.declared.instance.Instance.{Instance}
use Rattle.book_rules.specs.declared.book.SlotState.{SlotState}
use Rattle.book_rules.specs.declared.book.SlotState.TheVariants as slot
use Rattle.book_rules.specs.Book.{Book, Slot, no_slot, is_back, is_held, is_parked}
use Rattle.book_rules.specs.NextSlot.{is_split}
use Rattle.book_rules.proofs.BudgetLemmas.{slots-few}
use Rattle.book_core.specs.declared.stored_slot.StoredSlot.{StoredSlot}
use Rattle.book_core.specs.declared.waiting.Waiting.{Waiting}
use Rattle.book_core.specs.Stored.{slots_of, IsStoredAs}
use Rattle.book_core.specs.Tables.{state_in}
use Rattle.book_core.specs.Changes.{slot_in, set_state, Changes, let_go, IsSettled}
use Rattle.book_core.specs.Keeps.{IsSound, AreTables}
use Rattle.book_core.proofs.StoredLemmas.{length-slots_after, stored-at, stored-set}
use Rattle.book_core.proofs.HandLemmas.{state-known, hands-let_go}
use Rattle.book_core.proofs.BackLemmas.{back-kept}
use Rattle.book_core.proofs.WaitingLemmas.{settles, waiting-kept}
use Rattle.closing_rules.specs.declared.grounds.Ground.TheVariants as by

-- ---- what is stored of a slot

pub length-slots : (I : Instance) (ss : List StoredSlot) → length (slots_of I ss) ≡ length ss
length-slots I ss = length-slots_after I [] ss

-- r is stored of slot id
pub is-stored : (I : Instance) (ss : List StoredSlot) (id : ℕ) (r : StoredSlot) → id < length ss → r ≡ slice_index_or ss id r → IsStoredAs r (slot_in (slots_of I ss) id)
is-stored I ss id r known is = subst (λ q. IsStoredAs q (slot_in (slots_of I ss) id)) (sym is) (stored-at I [] ss id r known)

pub stored-change : (I : Instance) (ss : List StoredSlot) (id : ℕ) (r : StoredSlot) (state : SlotState) → id < length ss → r ≡ slice_index_or ss id r
    → slots_of I (slice_set ss id (record { bound = r.bound; shown = r.shown; state = state; parent = r.parent; number = r.number })) ≡ set_state (slots_of I ss) id state
stored-change I ss id r state known is =
    ap (λ (q : StoredSlot). slots_of I (slice_set ss id (record { bound = q.bound; shown = q.shown; state = state; parent = q.parent; number = q.number }))) is
    ∙ stored-set I [] ss id r state known

-- behind the last slot there is none
pub slot-past : (slots : List Slot) (id : ℕ) → length slots ≤ id → slot_in slots id ≡ no_slot
slot-past [] id past = refl
slot-past (s ∷ ss) zero past = absurd (omega (arith, past))
slot-past (s ∷ ss) (suc id) past = slot-past ss id (omega (arith, past))

-- ---- tests of emptiness

pub zero-is : (n : ℕ) (t : Bool) → t ≡ nat_eq n 0 → t ≡ true → n ≡ 0
zero-is n t is e = (Decides-eqb n 0).0 (sym is ∙ e)

pub some-is : (n : ℕ) (t : Bool) → t ≡ nat_eq n 0 → t ≡ false → 0 < n
some-is zero t is e = absurd (false≢true (sym e ∙ is))
some-is (suc n) t is e = omega arith

-- ---- how many slots there are

pub few-slots : (b : Book) → IsSound b → length b.slots ≤ 1 + CHILDREN * 1000000
few-slots b sound =
    let few = slots-few b sound.parts.budget in
    let used = sound.parts.budget.used in
    let nodes = sound.case.nodes.1 in
    omega (arith, few, used, nodes)

-- ---- a held or parked slot takes another state

-- of a state from which a slot may be closed
pub record MayLeave (state : SlotState) : Type 0 where
  pub back : is_back state ≡ false
  pub split : is_split state ≡ false
  pub known : state ≢ slot.Closed by.Bound

may-leave : (state : SlotState) → (is_held state || is_parked state) ≡ true → MayLeave state
may-leave (slot.Held w) e = record { back = refl; split = refl; known = λ h. false≢true (sym (ap is_held h)) }
may-leave (slot.Parked c p) e = record { back = refl; split = refl; known = λ h. false≢true (sym (ap is_parked h)) }
may-leave slot.Fresh e = absurd (false≢true e)
may-leave slot.Back e = absurd (false≢true e)
may-leave (slot.Split first) e = absurd (false≢true e)
may-leave (slot.Closed why) e = absurd (false≢true e)

pub leaving-known : (slots : List Slot) (id : ℕ) → (is_held (state_in slots id) || is_parked (state_in slots id)) ≡ true → id < length slots
leaving-known slots id e = state-known slots id (may-leave (state_in slots id) e).known

pub tables-settled : (old new : List Slot) (id : ℕ) (state : SlotState) (ended : List Bool) (hands : List (Option ℕ)) (back : List ℕ) (waiting : List Waiting) → Changes old id state new
    → AreTables old ended hands back waiting → (is_held (state_in old id) || is_parked (state_in old id)) ≡ true → IsSettled state → AreTables new ended (let_go (state_in old id) hands) back waiting
tables-settled old new id state ended hands back waiting change tables from to =
    let leaves = may-leave (state_in old id) from in
    record {
      hands_are = hands-let_go old new id state change hands tables.hands_are to.held;
      back_are = back-kept old new id state change back tables.back_are leaves.back to.back;
      few = tables.few;
      waiting_are = waiting-kept old new (settles old new id state change to.fresh leaves.split) waiting tables.waiting_are;
    }
