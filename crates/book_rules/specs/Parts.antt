-- What every book keeps beside the cover.
use Rattle.book_rules.specs.Book.{Book}
use Rattle.book_rules.specs.Family.{KeepsFamily}
use Rattle.book_rules.specs.States.{KeepsStates}
use Rattle.book_rules.specs.Lows.{KeepsLows}
use Rattle.book_rules.specs.Workers.{KeepsWorkers}
use Rattle.book_rules.specs.Budget.{KeepsBudget}
use Rattle.book_rules.specs.History.{KeepsRoom}
use Rattle.book_rules.specs.Cheap.{KeepsCheap}
use Rattle.book_rules.specs.Waiting.{KeepsBack}

-- The slots make a tree, their states and what is shown of them are true, and workers, nodes, entries and cheap nodes are counted.
pub record KeepsParts (b : Book) : Type 0 where
  pub family : KeepsFamily b
  pub states : KeepsStates b
  pub lows : KeepsLows b
  pub workers : KeepsWorkers b
  pub budget : KeepsBudget b
  pub room : KeepsRoom b
  pub cheap : KeepsCheap b
  pub back : KeepsBack b
