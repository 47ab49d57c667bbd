-- What the state of a slot says of its node.
use Rattle.std.specs.Prelude.{ℕ, ◌≡◌, ◌<◌, List, length, map, slice_get, Some, All, ⊤}
use Rattle.lock_model.specs.Fitting.{deck_of}
use Rattle.lock_model.specs.Cargo.{HasNoClash}
use Rattle.lock_model.specs.declared.instance.Instance.{Instance}
use Rattle.lock_model.specs.declared.group.Group.{Group}
use Rattle.lock_rules.specs.Node.{Node, line_at}
use Rattle.lock_rules.specs.Cut.{HitsNode}
use Rattle.refute_rules.specs.Spots.{IsSpent}
use Rattle.refute_rules.specs.Cuts.{Cut}
use Rattle.book_rules.specs.declared.book.SlotState.{SlotState}
use Rattle.book_rules.specs.declared.book.SlotState.TheVariants as slot
use Rattle.book_rules.specs.Book.{Case, Slot, Book, best_cost, ships_at}
use Rattle.price_rules.specs.Prices.{PlainCut, PriceList}
use Rattle.closing_rules.specs.ListedPrices.{cut_in, IsPricedBy, IsSweptBy}
use Rattle.closing_rules.specs.Grounds.{IsClosedBy}

-- the cut of this number is there and hits a group of the lines
pub record IsHitBy (I : Instance) (cuts : List Cut) (number : ℕ) (lines : List (List Group)) : Type 0 where
  pub cut : Cut
  pub there : slice_get cuts number ≡ Some cut
  pub hits : HitsNode cut.ships cut.deck I lines

-- the cuts as prices see them
abbrev pub cuts_in : Instance → List Cut → List PlainCut
cuts_in I cuts = map (λ (c : Cut). cut_in I c.chamber c.ships) cuts

-- group p of chamber c is there, it is spent for the case's turns, and no two of its ships clash
pub record IsSpentGroup (case : Case) (node : Node) (c p : ℕ) : Type 0 where
  pub there : p < length (line_at node.lines c)
  pub spent : IsSpent (deck_of case.instance c (ships_at node c p)) case.turns
  pub clear : HasNoClash (deck_of case.instance c (ships_at node c p))

-- by the state of a slot, with these cuts, prices and best cost; of Back, Held and Split slots nothing is said
abbrev pub Tells : Case → List Cut → List PriceList → ℕ → Node → ℕ → SlotState → Type 0
Tells case cuts prices cost node bound slot.Fresh = bound < cost
Tells case cuts prices cost node bound (slot.Closed why) =
    IsClosedBy case.instance (IsHitBy case.instance cuts) (IsPricedBy case.instance (cuts_in case.instance cuts) prices)
    (IsSweptBy case.instance (cuts_in case.instance cuts) prices)
    cost bound node.depth node.lines why
Tells case cuts prices cost node bound (slot.Parked c p) = IsSpentGroup case node c p
Tells case cuts prices cost node bound _ = ⊤

abbrev pub IsTrueSlot : Case → List Cut → List PriceList → ℕ → Slot → Type 0
IsTrueSlot case cuts prices cost s = Tells case cuts prices cost s.node s.bound s.state

-- The state of each slot is true of its node.
pub record KeepsStates (b : Book) : Type 0 where
  pub states : All (IsTrueSlot b.case b.cuts b.prices (best_cost b)) b.slots
