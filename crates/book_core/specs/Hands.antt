-- The slots that workers hold, with their nodes.
use Rattle.std.specs.Prelude.{ℕ, ◌≡◌, ◌+◌, ◌<◌, List, [], ◌∷◌, length, map, slice_index_or, Some, None, IfSome}
use Rattle.std.specs.declared.option.Option.{Option}
use Rattle.lock_model.specs.declared.instance.Instance.{Instance}
use Rattle.lock_rules.specs.Arrival.{next_ship}
use Rattle.lock_rules.specs.Bound.{bound_of}
use Rattle.lock_rules.specs.Children.{children_of}
use Rattle.master_branch.specs.Node.{IsNodeOf, children}
use Rattle.lock_rules.specs.Node.{Node}
use Rattle.book_rules.specs.Book.{Book, Slot, no_slot, slot_at}
use Rattle.book_core.specs.declared.hand.Hand.{Hand}

-- the slot in a hand, and those in hands
abbrev pub id_of : Option Hand → Option ℕ
id_of None = None
id_of (Some h) = Some h.id

abbrev pub ids_of : List (Option Hand) → List (Option ℕ)
ids_of [] = []
ids_of (h ∷ hs) = id_of h ∷ ids_of hs

abbrev pub held_at : List (Option Hand) → ℕ → Option Hand
held_at hands w = slice_index_or hands w None

-- the bounds of a node's children, in order
abbrev pub bounds_below : Instance → Node → List ℕ
bounds_below I node = map (bound_of I (node.depth + 1)) (children I node)

-- the bounds in a hand; none where they aren't there
abbrev pub or_none : Option (List ℕ) → List ℕ
or_none None = []
or_none (Some bounds) = bounds

abbrev pub bounds_in : Option Hand → List ℕ
bounds_in None = []
bounds_in (Some h) = or_none h.bounds

-- the hand with those of its node's children
abbrev pub with_bounds : Instance → Hand → Hand
with_bounds I h = record h { bounds = Some (bounds_below I h.node) }

abbrev pub filled : Instance → Option Hand → Option Hand
filled I None = None
filled I (Some h) = Some (with_bounds I h)

-- the hand with these
abbrev pub laid : List ℕ → Option Hand → Option Hand
laid bounds None = None
laid bounds (Some h) = Some (record h { bounds = Some bounds })

-- the hand has a node that lacks a ship, and the bounds in it are those of the node's children
pub record IsBounding (I : Instance) (hand : Hand) : Type 0 where
  pub node : IsNodeOf I hand.node
  pub lacks : hand.node.depth < length I.ships
  pub bounds : IfSome hand.bounds (λ bounds. bounds ≡ bounds_below I hand.node)

-- the node is that of slot id
pub record IsNodeIn (I : Instance) (slots : List Slot) (id : ℕ) (n : Node) : Type 0 where
  pub known : id < length slots
  pub same : n ≡ (slice_index_or slots id no_slot).node
  pub node : IsNodeOf I n

-- a hand has the node of its slot, and the bounds in it are those of the node's children
pub record IsHand (I : Instance) (slots : List Slot) (hand : Hand) : Type 0 where
  pub own : IsNodeIn I slots hand.id hand.node
  pub bounds : IfSome hand.bounds (λ bounds. bounds ≡ bounds_below I hand.node)

-- the same of all hands
pub record AreNodes (I : Instance) (slots : List Slot) (hands : List (Option Hand)) : Type 0 where
  pub each : (w : ℕ) → IfSome (held_at hands w) (IsHand I slots)

-- the bounds of the children of the node of slot id
abbrev pub bounds_at : Book → ℕ → List ℕ
bounds_at b id =
    map (bound_of b.case.instance ((slot_at b id).node.depth + 1))
    (children_of b.case.instance (slot_at b id).node.depth (slot_at b id).node.lines)

-- the hand that holds slot id
pub record IsHandOf (b : Book) (id : ℕ) (hand : Hand) : Type 0 where
  pub own : IsNodeIn b.case.instance b.slots id hand.node
  pub bounds : IfSome hand.bounds (λ bounds. bounds ≡ bounds_below b.case.instance hand.node)

-- the node of slot id lacks this ship first
pub record IsNextShip (b : Book) (id ship : ℕ) : Type 0 where
  pub lacks : (slot_at b id).node.depth < length b.case.instance.ships
  pub next : ship ≡ next_ship b.case.instance (slot_at b id).node.depth
