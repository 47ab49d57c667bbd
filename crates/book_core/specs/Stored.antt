-- The slots of a book, from what is stored of them.
use Rattle.std.specs.Prelude.{◌≡◌, List, [], ◌∷◌, ◌++◌, slice_index_or}
use Rattle.lock_model.specs.declared.instance.Instance.{Instance}
use Rattle.book_rules.specs.Book.{Slot}
use Rattle.lock_rules.specs.Node.{Node, root}
use Rattle.book_rules.specs.Family.{child_node}
use Rattle.book_core.specs.declared.stored_slot.StoredSlot.{StoredSlot}

-- the node of a slot, after the nodes of the slots before it; the first slot holds the root
abbrev pub node_after : Instance → List Node → StoredSlot → Node
node_after I [] s = root
node_after I (n ∷ ns) s = child_node I (slice_index_or (n ∷ ns) s.parent root) s.number

abbrev pub slot_with : StoredSlot → Node → Slot
slot_with s node = record { parent = s.parent; number = s.number; node = node; bound = s.bound; shown = s.shown; state = s.state }

-- the slots, after the nodes of the slots before them
abbrev pub slots_after : Instance → List Node → List StoredSlot → List Slot
slots_after I done [] = []
slots_after I done (s ∷ ss) = slot_with s (node_after I done s) ∷ slots_after I (done ++ node_after I done s ∷ []) ss

abbrev pub slots_of : Instance → List StoredSlot → List Slot
slots_of I stored = slots_after I [] stored

-- what is stored of a slot
pub record IsStoredAs (s : StoredSlot) (t : Slot) : Type 0 where
  pub parent : t.parent ≡ s.parent
  pub number : t.number ≡ s.number
  pub bound : t.bound ≡ s.bound
  pub shown : t.shown ≡ s.shown
  pub state : t.state ≡ s.state
