-- What a book holds.
use Rattle.std.specs.Prelude.{ℕ, max, Bool, true, false, ◌||◌, nat_eq, nat_le, if◌then◌else◌, Some, None}
use Rattle.std.specs.Prelude.{List, [], ◌∷◌, replicate, slice_index_or, slice_get, position}
use Rattle.std.specs.List.{list_any}
use Rattle.std.specs.declared.option.Option.{Option}
use Rattle.lock_model.specs.declared.limits.TheConstants.{WORKERS_AND_DRIVER}
use Rattle.lock_model.specs.declared.instance.Instance.{Instance}
use Rattle.lock_model.specs.declared.group.Group.{Group}
use Rattle.lock_model.specs.declared.way.Way.TheVariants.{Up}
use Rattle.lock_model.specs.declared.plan.Plan.{Plan}
use Rattle.lock_rules.specs.Plan.{cost_of}
use Rattle.lock_rules.specs.Node.{Node, root, line_at}
use Rattle.lock_rules.specs.Bound.{bound_of}
use Rattle.price_rules.specs.Prices.{PriceList}
use Rattle.refute_rules.specs.Cuts.{Cut}
use Rattle.book_rules.specs.declared.book.SlotState.{SlotState}
use Rattle.book_rules.specs.declared.book.ShownLow.{ShownLow}
use Rattle.book_rules.specs.declared.book.Entry.{Entry}
use Rattle.book_rules.specs.declared.book.SlotState.TheVariants as slot
use Rattle.closing_rules.specs.declared.grounds.Ground.TheVariants as by

-- an instance, a budget of nodes, and a number of turns
pub record Case : Type 0 where
  pub instance : Instance
  pub nodes : ℕ
  pub turns : ℕ

-- A slot holds a node, the child of this number of the node of its parent; the root's are 0. Of its node a cost may have been shown.
pub record Slot : Type 0 where
  pub parent : ℕ
  pub number : ℕ
  pub node : Node
  pub bound : ℕ
  pub shown : Option ShownLow
  pub state : SlotState

-- `ended` tells for each of nine workers whether it has released; the plans are those that replaced the opening one.
pub record Book : Type 0 where
  pub case : Case
  pub opening : Plan
  pub slots : List Slot
  pub cuts : List Cut
  pub prices : List PriceList
  pub plans : List Plan
  pub best : Plan
  pub used : ℕ
  pub ended : List Bool
  pub history : List Entry

abbrev pub no_slot : Slot
no_slot = record { parent = 0; number = 0; node = root; bound = 0; shown = None; state = slot.Closed by.Bound }

abbrev pub slot_at : Book → ℕ → Slot
slot_at b id = slice_index_or b.slots id no_slot

-- the cost of the best plan
abbrev pub best_cost : Book → ℕ
best_cost b = cost_of b.case.instance b.best

-- the bound of a node
abbrev pub bound_at : Instance → Node → ℕ
bound_at I node = bound_of I node.depth node.lines

-- a new slot: closed where its bound is at least this cost; nothing is shown of it
abbrev pub new_slot : Instance → ℕ → ℕ → ℕ → Node → Slot
new_slot I cost parent number node = record {
  parent = parent;
  number = number;
  node = node;
  bound = bound_at I node;
  shown = None;
  state = if nat_le cost (bound_at I node) then (slot.Closed by.Bound) else slot.Fresh;
}

-- what is known of a slot's node: no plan under it costs less than its bound, or than what was shown
abbrev pub low_by : ℕ → Option ShownLow → ℕ
low_by bound None = bound
low_by bound (Some low) = max bound low.cost

abbrev pub slot_low : Slot → ℕ
slot_low s = low_by s.bound s.shown

-- the book of a case and a plan, with the root alone
abbrev pub opening_book : Case → Plan → Book
opening_book case plan = record {
  case = case;
  opening = plan;
  slots = new_slot case.instance (cost_of case.instance plan) 0 0 root ∷ [];
  cuts = [];
  prices = [];
  plans = [];
  best = plan;
  used = 0;
  ended = replicate WORKERS_AND_DRIVER false;
  history = [];
}

abbrev pub is_fresh : SlotState → Bool
is_fresh slot.Fresh = true
is_fresh _ = false

abbrev pub is_back : SlotState → Bool
is_back slot.Back = true
is_back _ = false

abbrev pub is_held : SlotState → Bool
is_held (slot.Held w) = true
is_held _ = false

abbrev pub is_held_by : ℕ → SlotState → Bool
is_held_by w (slot.Held v) = nat_eq v w
is_held_by w _ = false

abbrev pub is_parked : SlotState → Bool
is_parked (slot.Parked c p) = true
is_parked _ = false

-- open, held or parked
abbrev pub is_live : SlotState → Bool
is_live state = is_fresh state || is_back state || is_held state || is_parked state

-- some slot is in such a state
abbrev pub has_slot : Book → (SlotState → Bool) → Bool
has_slot b test = list_any (λ (s : Slot). test s.state) b.slots

-- the first slot in such a state
abbrev pub first_slot : Book → (SlotState → Bool) → Option ℕ
first_slot b test = position (λ (s : Slot). test s.state) b.slots

-- group p of chamber c
abbrev pub group_at : Node → ℕ → ℕ → Option Group
group_at node c p = slice_get (line_at node.lines c) p

abbrev pub no_group : Group
no_group = record { way = Up; ships = [] }

-- the ships of group p of chamber c
abbrev pub ships_at : Node → ℕ → ℕ → List ℕ
ships_at node c p = (slice_index_or (line_at node.lines c) p no_group).ships
