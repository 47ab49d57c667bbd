-- What is read off the stored slots is what the slots say.
use Rattle.std.proofs.Common.{◌≡◌, ℕ, suc, ◌+◌, ◌<◌, List, [], ◌∷◌, ◌++◌, length, map, filter, refl, ap, Bool, true, false, not, cond, ◌||◌, Some, None, nat_lt}
use Rattle.std.specs.List.{list_any, position, position_or_len}
use Rattle.lock_model.specs.declared.instance.Instance.{Instance}
use Rattle.book_rules.specs.declared.book.SlotState.{SlotState}
use Rattle.book_rules.specs.Book.{Book, Slot, low_by, slot_low, is_live, is_parked, first_slot}
use Rattle.lock_rules.specs.Node.{Node}
use Rattle.book_rules.proofs.SlotLemmas.{first_slot-at}
use Rattle.book_core.specs.declared.stored_slot.StoredSlot.{StoredSlot}
use Rattle.book_core.specs.Stored.{node_after, slot_with, slots_after, slots_of}
use Rattle.book_core.specs.Summing.{live_lows}

module _ (I : Instance) where
  any-after : (test : SlotState → Bool) (done : List Node) (ss : List StoredSlot) → list_any (λ (s : StoredSlot). test s.state) ss ≡ list_any (λ (s : Slot). test s.state) (slots_after I done ss)
  any-after test done [] = refl
  any-after test done (s ∷ ss) = ap (λ t. test s.state || t) (any-after test (done ++ node_after I done s ∷ []) ss)

  pub any-stored : (test : SlotState → Bool) (ss : List StoredSlot) → list_any (λ (s : StoredSlot). test s.state) ss ≡ list_any (λ (s : Slot). test s.state) (slots_of I ss)
  any-stored test ss = any-after test [] ss

  place-after : (test : SlotState → Bool) (done : List Node) (ss : List StoredSlot) → position_or_len (λ (s : StoredSlot). test s.state) ss ≡ position_or_len (λ (s : Slot). test s.state) (slots_after I done ss)
  place-after test done [] = refl
  place-after test done (s ∷ ss) = ap (λ n. cond (not (test s.state)) (1 + n) 0) (place-after test (done ++ node_after I done s ∷ []) ss)

  length-after : (done : List Node) (ss : List StoredSlot) → length ss ≡ length (slots_after I done ss)
  length-after done [] = refl
  length-after done (s ∷ ss) = ap suc (length-after (done ++ node_after I done s ∷ []) ss)

  pub position-stored : (test : SlotState → Bool) (ss : List StoredSlot) → position (λ (s : StoredSlot). test s.state) ss ≡ position (λ (s : Slot). test s.state) (slots_of I ss)
  position-stored test ss = λ i. cond (nat_lt (place-after test [] ss i) (length-after [] ss i)) (Some (place-after test [] ss i)) None

  live-one : (s : StoredSlot) (n : Node) (t : Bool) (ss : List StoredSlot) (rest : List Slot) → map (λ (s : StoredSlot). low_by s.bound s.shown) (filter (λ (s : StoredSlot). is_live s.state) ss) ≡ map slot_low (filter (λ (s : Slot). is_live s.state) rest)
      → map (λ (s : StoredSlot). low_by s.bound s.shown) (cond t (s ∷ filter (λ (s : StoredSlot). is_live s.state) ss) (filter (λ (s : StoredSlot). is_live s.state) ss))
      ≡ map slot_low (cond t (slot_with s n ∷ filter (λ (s : Slot). is_live s.state) rest) (filter (λ (s : Slot). is_live s.state) rest))
  live-one s n true ss rest same = ap (λ l. low_by s.bound s.shown ∷ l) same
  live-one s n false ss rest same = same

  live-after : (done : List Node) (ss : List StoredSlot) → live_lows ss ≡ map slot_low (filter (λ (s : Slot). is_live s.state) (slots_after I done ss))
  live-after done [] = refl
  live-after done (s ∷ ss) = live-one s (node_after I done s) (is_live s.state) ss (slots_after I (done ++ node_after I done s ∷ []) ss) (live-after (done ++ node_after I done s ∷ []) ss)

  pub live-stored : (ss : List StoredSlot) → live_lows ss ≡ map slot_low (filter (λ (s : Slot). is_live s.state) (slots_of I ss))
  live-stored ss = live-after [] ss

-- ---- the parked group

pub parked-at : (b : Book) (id : ℕ) → first_slot b is_parked ≡ Some id → id < length b.slots
parked-at b id first = (first_slot-at b is_parked id first).0
