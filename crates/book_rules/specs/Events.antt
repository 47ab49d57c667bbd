-- Events of a book, and its replies.
use Rattle.std.specs.Prelude.{ℕ, ◌≤◌, Bool, true, false, ⊤}
use Rattle.lock_model.specs.declared.limits.TheConstants.{WORKERS}
use Rattle.lock_model.specs.Deck.{Deck}
use Rattle.lock_model.specs.declared.plan.Plan.{Plan}
use Rattle.refute_rules.specs.Spots.{IsSpent}
use Rattle.refute_rules.specs.Cuts.{Cut, IsCut}
use Rattle.closing_rules.specs.declared.grounds.Ground.{Ground}
use Rattle.closing_rules.specs.ListedPrices.{ArePrices}
use Rattle.lock_rules.specs.Node.{Node as TreeNode}
use Rattle.price_rules.specs.Prices.{PriceList}
use Rattle.book_rules.specs.Shown.{Shown, IsShown, Swept, IsSweptCost}

-- The events; `park` names slot, chamber and place, and carries the deck and the turns of the lent value; `close_price`, `show_low` and
-- `close_swept` name slot and prices, and carry what was shown or swept.
pub data Event : Type 0 where
  take : ℕ → Event
  split : ℕ → Event
  close : ℕ → Ground → Event
  post : Cut → Event
  post_prices : PriceList → Event
  close_price : ℕ → ℕ → Shown → Event
  close_swept : ℕ → ℕ → Swept → Event
  show_low : ℕ → ℕ → Shown → Event
  park : ℕ → ℕ → ℕ → Deck → ℕ → Event
  replace : Plan → Event
  release : ℕ → Event

-- The replies; a break is what `judge_plan` answers against a plan.
pub data Reply (Break : Type 0) : Type 0 where
  Node : ℕ → TreeNode → Reply Break
  Made : ℕ → Reply Break
  Closed : Reply Break
  LowShown : Reply Break
  Posted : ℕ → Reply Break
  Priced : ℕ → Reply Break
  Parked : Reply Break
  Replaced : ℕ → Reply Break
  Released : ℕ → Reply Break
  Ended : ℕ → Reply Break
  Holds : ℕ → Reply Break
  NodesSpent : ℕ → Reply Break
  Idle : Reply Break
  Done : Reply Break
  NotHeld : ℕ → Reply Break
  Whole : ℕ → Reply Break
  Cheaper : ℕ → ℕ → Reply Break
  NoHit : ℕ → Reply Break
  OtherDeck : Reply Break
  NotLegal : Break → Reply Break
  NotCheaper : ℕ → ℕ → Reply Break
  Absent : ℕ → Reply Break
  Clashes : ℕ → Reply Break
  OtherPrices : Reply Break
  NoPrices : ℕ → Reply Break
  NotShown : Reply Break
  NotRoot : Reply Break
  NotSwept : Reply Break
  Lower : ℕ → ℕ → Reply Break

-- the first nine accept their event, the others refuse it
abbrev pub is_acceptance : {Break : Type 0} → Reply Break → Bool
is_acceptance (Node id node) = true
is_acceptance (Made count) = true
is_acceptance Closed = true
is_acceptance LowShown = true
is_acceptance (Posted number) = true
is_acceptance (Priced number) = true
is_acceptance Parked = true
is_acceptance (Replaced cost) = true
is_acceptance (Released count) = true
is_acceptance _ = false

-- what the caller of an event owes: a worker's number is at most WORKERS, the driver's, a lent deck is hard and spot-hard, a cut's
-- refutation holds, prices are within their limits, what is shown is reached, and what is swept is so
abbrev pub IsOwed : Event → Type 0
IsOwed (take w) = w ≤ WORKERS
IsOwed (release w) = w ≤ WORKERS
IsOwed (park id c p deck turns) = IsSpent deck turns
IsOwed (post cut) = IsCut cut
IsOwed (post_prices prices) = ArePrices prices
IsOwed (close_price id number shown) = IsShown shown
IsOwed (close_swept id number swept) = IsSweptCost swept
IsOwed (show_low id number shown) = IsShown shown
IsOwed _ = ⊤
