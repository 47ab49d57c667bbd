-- What is shown of slots is true of their nodes.
use Rattle.std.specs.Prelude.{List, All, Some, None, ⊤}
use Rattle.std.specs.declared.option.Option.{Option}
use Rattle.lock_model.specs.declared.instance.Instance.{Instance}
use Rattle.lock_rules.specs.Node.{Node}
use Rattle.price_rules.specs.Prices.{PriceList}
use Rattle.refute_rules.specs.Cuts.{Cut}
use Rattle.closing_rules.specs.ListedPrices.{IsPricedBy}
use Rattle.book_rules.specs.declared.book.ShownLow.{ShownLow}
use Rattle.book_rules.specs.Book.{Slot, Book}
use Rattle.book_rules.specs.States.{cuts_in}

-- where a cost is shown of a node, the node reaches it by the prices of the number and these cuts
abbrev pub IsReachedLow : Instance → List Cut → List PriceList → Node → Option ShownLow → Type 0
IsReachedLow I cuts prices node None = ⊤
IsReachedLow I cuts prices node (Some low) = IsPricedBy I (cuts_in I cuts) prices low.prices node.depth node.lines low.cost

abbrev pub HasTrueLow : Instance → List Cut → List PriceList → Slot → Type 0
HasTrueLow I cuts prices s = IsReachedLow I cuts prices s.node s.shown

-- What is shown of each slot, its node reaches.
pub record KeepsLows (b : Book) : Type 0 where
  pub lows : All (HasTrueLow b.case.instance b.cuts b.prices) b.slots
