-- What is stored of slots, and the slots.
use Rattle.std.proofs.Common.{◌≡◌, ℕ, zero, suc, ◌<◌, List, [], ◌∷◌, ◌++◌, length, refl, sym, ap, ◌∙◌, arith, slice_index_or, slice_set, append-nil}
use Rattle.lock_model.specs.declared.instance.Instance.{Instance}
use Rattle.book_rules.specs.declared.book.SlotState.{SlotState}
use Rattle.book_rules.specs.Book.{Slot, no_slot}
use Rattle.lock_rules.specs.Node.{Node, root}
use Rattle.book_core.specs.declared.stored_slot.StoredSlot.{StoredSlot}
use Rattle.book_core.specs.Stored.{node_after, slot_with, slots_after, IsStoredAs}

append-three : {X : Type 0} (xs : List X) (y : X) (zs : List X) → (xs ++ y ∷ []) ++ zs ≡ xs ++ (y ∷ zs)
append-three [] y zs = refl
append-three (x ∷ xs) y zs = ap (λ l. x ∷ l) (append-three xs y zs)

-- the nodes of slots
abbrev pub nodes_in : List Slot → List Node
nodes_in [] = []
nodes_in (s ∷ ss) = s.node ∷ nodes_in ss

pub length-slots_after : (I : Instance) (done : List Node) (ss : List StoredSlot) → length (slots_after I done ss) ≡ length ss
length-slots_after I done [] = refl
length-slots_after I done (s ∷ ss) = ap suc (length-slots_after I (done ++ node_after I done s ∷ []) ss)

pub stored-at : (I : Instance) (done : List Node) (ss : List StoredSlot) (i : ℕ) (d : StoredSlot) → i < length ss → IsStoredAs (slice_index_or ss i d) (slice_index_or (slots_after I done ss) i no_slot)
stored-at I done [] i d known = absurd (omega (arith, known))
stored-at I done (s ∷ ss) zero d known = record { parent = refl; number = refl; bound = refl; shown = refl; state = refl }
stored-at I done (s ∷ ss) (suc i) d known = stored-at I (done ++ node_after I done s ∷ []) ss i d (omega (arith, known))

-- a state that is set in a stored slot is set in the slot
pub stored-set : (I : Instance) (done : List Node) (ss : List StoredSlot) (i : ℕ) (d : StoredSlot) (state : SlotState) → i < length ss
    → slots_after I done (slice_set ss i (record (slice_index_or ss i d) { state = state })) ≡ slice_set (slots_after I done ss) i (record (slice_index_or (slots_after I done ss) i no_slot) { state = state })
stored-set I done [] i d state known = absurd (omega (arith, known))
stored-set I [] (s ∷ ss) zero d state known = refl
stored-set I (n ∷ ns) (s ∷ ss) zero d state known = refl
stored-set I done (s ∷ ss) (suc i) d state known =
    ap (λ l. slot_with s (node_after I done s) ∷ l) (stored-set I (done ++ node_after I done s ∷ []) ss i d state (omega (arith, known)))

-- stored slots behind others
pub stored-append : (I : Instance) (done : List Node) (ss ts : List StoredSlot) → slots_after I done (ss ++ ts) ≡ slots_after I done ss ++ slots_after I (done ++ nodes_in (slots_after I done ss)) ts
stored-append I done [] ts = ap (λ l. slots_after I l ts) (sym (append-nil done))
stored-append I done (s ∷ ss) ts =
    let n = node_after I done s in
    ap (λ l. slot_with s n ∷ l) (stored-append I (done ++ n ∷ []) ss ts
    ∙ ap (λ l. slots_after I (done ++ n ∷ []) ss ++ slots_after I l ts) (append-three done n (nodes_in (slots_after I (done ++ n ∷ []) ss))))

-- the node of slot i is a child of its parent's, which comes before it
pub node-at : (slots : List Slot) (i : ℕ) → slice_index_or (nodes_in slots) i root ≡ (slice_index_or slots i no_slot).node
node-at [] i = refl
node-at (s ∷ ss) zero = refl
node-at (s ∷ ss) (suc i) = node-at ss i
