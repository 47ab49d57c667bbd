-- How the slots of a book make a tree.
use Rattle.std.specs.Prelude.{ℕ, suc, ◌≡◌, ◌+◌, ◌<◌, length, slice_index_or}
use Rattle.lock_model.specs.declared.instance.Instance.{Instance}
use Rattle.lock_rules.specs.Node.{Node, root, root_lines}
use Rattle.lock_rules.specs.Children.{children_of}
use Rattle.book_rules.specs.Book.{Book, slot_at}
use Rattle.book_rules.specs.declared.book.SlotState.TheVariants as slot

-- how many children a node has
abbrev pub child_count : Instance → Node → ℕ
child_count I node = length (children_of I node.depth node.lines)

-- child k of a node
abbrev pub child_node : Instance → Node → ℕ → Node
child_node I node k = record { depth = suc node.depth; lines = slice_index_or (children_of I node.depth node.lines) k root_lines }

-- slot id is child k of slot parent
pub record IsChildSlot (b : Book) (parent k id : ℕ) : Type 0 where
  pub known : id < length b.slots
  pub parent_is : (slot_at b id).parent ≡ parent
  pub number_is : (slot_at b id).number ≡ k
  pub node_is : (slot_at b id).node ≡ child_node b.case.instance (slot_at b parent).node k

-- the children of slot id are all its node's children in order, from slot `first` on
pub record HasChildren (b : Book) (id first : ℕ) : Type 0 where
  pub later : id < first
  pub lacks : (slot_at b id).node.depth < length b.case.instance.ships
  pub child : (k : ℕ) → k < child_count b.case.instance (slot_at b id).node → IsChildSlot b id k (first + k)

-- slot id stands among the children of its parent
pub record IsBorn (b : Book) (id : ℕ) : Type 0 where
  pub first : ℕ
  pub split : (slot_at b (slot_at b id).parent).state ≡ slot.Split first
  pub number : (slot_at b id).number < child_count b.case.instance (slot_at b (slot_at b id).parent).node
  pub place : first + (slot_at b id).number ≡ id

-- The root comes first, each split slot has its children, and each other slot is a child.
pub record KeepsFamily (b : Book) : Type 0 where
  pub some : 0 < length b.slots
  pub root_is : (slot_at b 0).node ≡ root
  pub children : (id first : ℕ) → (slot_at b id).state ≡ slot.Split first → HasChildren b id first
  pub born : (id : ℕ) → 0 < id → id < length b.slots → IsBorn b id
