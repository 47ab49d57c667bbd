-- A table and a seat as contracts see them.
use Rattle.atomic_table.specs.Seated.{TableId}
use Rattle.bound_word.specs.declared.view.View.{View}
use Rattle.bound_word.specs.declared.view.Opening.{Opening}

-- a seat: the table that it is of, and its view
pub record Placed : Type 0 where
  pub table : TableId
  pub view : View

-- a table: which one it is, and what it was opened with
pub record Opened : Type 0 where
  pub table : TableId
  pub about : Opening
