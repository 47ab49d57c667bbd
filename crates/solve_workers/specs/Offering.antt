-- What the driver makes of a book while prices are asked about the slot that it holds.
use Rattle.book_rules.specs.Book.{Book}
use Rattle.book_rules.specs.Ends.{HoldsNothing}
use Rattle.price_search.specs.declared.desk.InHand.{InHand}
use Rattle.solve_workers.specs.Driving.{IsDriven}
use Rattle.solve_workers.specs.Holding.{HoldsOnly}

-- the driver made this book of the one that it began with, and holds this slot alone
pub record HasDriven (held : InHand) (began book : Book) : Type 0 where
  pub holds : HoldsOnly book held.id held.node.now
  pub driven : IsDriven began book

-- the same, and it holds no slot any more
pub record HasFreed (began book : Book) : Type 0 where
  pub free : HoldsNothing book
  pub driven : IsDriven began book
