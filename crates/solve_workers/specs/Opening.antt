-- A book that was just opened, and one that the driver may take on.
use Rattle.std.specs.Prelude.{ℕ, ◌≡◌, ◌≤◌, List, ◌++◌, map}
use Rattle.lock_model.specs.declared.plan.Plan.{Plan}
use Rattle.refute_rules.specs.Cuts.{Cut}
use Rattle.book_rules.specs.declared.book.Entry.TheVariants as entry
use Rattle.book_rules.specs.Book.{Book, Case, opening_book}
use Rattle.book_rules.specs.Cheap.{opening_cost}
use Rattle.book_rules.specs.Ends.{HoldsNothing}
use Rattle.solve_workers.specs.Holding.{IsRunning}

-- the book after these cuts were posted, in order
abbrev pub with_cuts : Book → List Cut → Book
with_cuts b cuts = record b { cuts = b.cuts ++ cuts; history = b.history ++ map (λ _. entry.Post) cuts }

-- the book of a case and a plan, with the root alone and these cuts
abbrev pub opened_with : Case → Plan → List Cut → Book
opened_with case plan cuts = with_cuts (opening_book case plan) cuts

-- The book is of this case and its opening plan costs at most this much. Nothing is held, and the driver hasn't released.
pub record IsReady (case : Case) (cost : ℕ) (b : Book) : Type 0 where
  pub case_is : b.case ≡ case
  pub opening : opening_cost b ≤ cost
  pub free : HoldsNothing b
  pub running : IsRunning b
