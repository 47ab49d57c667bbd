-- The way from the root to a slot, and how each slot's node comes from its parent's.
use Rattle.std.specs.Prelude.{ℕ, ◌≡◌, ◌-◌, ◌≤◌, ◌<◌, List, length, slice_index_or, vec_capacity}
use Rattle.lock_model.specs.declared.limits.TheConstants.{SHIPS_AND_ROOT}
use Rattle.lock_model.specs.declared.instance.Instance.{Instance}
use Rattle.lock_rules.specs.Node.{root as tree_root}
use Rattle.book_rules.specs.Book.{Slot}
use Rattle.book_rules.specs.Family.{child_node, child_count}
use Rattle.book_core.specs.declared.path.Path.{Path}
use Rattle.book_core.specs.declared.path.PathNode.{PathNode}
use Rattle.book_core.specs.Changes.{slot_in}
use Rattle.book_core.specs.Hands.{IsNodeIn}

-- the root with its node
abbrev pub root_entry : PathNode
root_entry = record { id = 0; node = tree_root }

abbrev pub entry_at : List PathNode → ℕ → PathNode
entry_at nodes k = slice_index_or nodes k root_entry

-- the last one
abbrev pub last_on : List PathNode → PathNode
last_on nodes = entry_at nodes (length nodes - 1)

-- the last one is that of slot id
pub record EndsAt (id : ℕ) (nodes : List PathNode) : Type 0 where
  pub some : 0 < length nodes
  pub last : (last_on nodes).id ≡ id

-- entry k is a slot with its node, which holds k ships
pub record IsEntry (I : Instance) (slots : List Slot) (k : ℕ) (entry : PathNode) : Type 0 where
  pub own : IsNodeIn I slots entry.id entry.node
  pub deep : entry.node.depth ≡ k

-- each entry is such, and there is room for nodes of 0 to SHIPS ships
pub record IsPath (I : Instance) (slots : List Slot) (path : Path) : Type 0 where
  pub each : (k : ℕ) → k < length path.nodes.items → IsEntry I slots k (entry_at path.nodes.items k)
  pub room : SHIPS_AND_ROOT ≤ vec_capacity path.nodes

-- slot id comes behind its parent, whose node lacks a ship, and its node is a child of its parent's
pub record IsChild (I : Instance) (slots : List Slot) (id : ℕ) : Type 0 where
  pub before : (slot_in slots id).parent < id
  pub lacks : (slot_in slots (slot_in slots id).parent).node.depth < length I.ships
  pub within : (slot_in slots id).number < child_count I (slot_in slots (slot_in slots id).parent).node
  pub node : (slot_in slots id).node ≡ child_node I (slot_in slots (slot_in slots id).parent).node (slot_in slots id).number

-- the first slot has the root's node, and each other one is a child
pub record IsSlotTree (I : Instance) (slots : List Slot) : Type 0 where
  pub root : (slot_in slots 0).node ≡ tree_root
  pub child : (id : ℕ) → 0 < id → id < length slots → IsChild I slots id
