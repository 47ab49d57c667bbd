-- What the case of a book keeps.
use Rattle.lock_model.specs.Limits.{Within}
use Rattle.lock_rules.specs.Unfit.{HasNoUnfit}
use Rattle.book_rules.specs.Book.{Case}

-- each ship fits some chamber alone, and the budget and the turns are within their limits
pub record IsCase (c : Case) : Type 0 where
  pub fit : HasNoUnfit c.instance
  pub nodes : Within 1 1000000 c.nodes
  pub turns : Within 1 200000 c.turns
