-- The free room of a book's history.
use Rattle.std.specs.Prelude.{◌+◌, ◌*◌, ◌≤◌, Bool, true, false, length, count_by}
use Rattle.book_rules.specs.declared.book.Entry.{Entry}
use Rattle.book_rules.specs.declared.book.Entry.TheVariants as entry
use Rattle.book_rules.specs.Book.{Book}
use Rattle.book_rules.specs.Room.{room_of}

-- the entries of costs that were shown
abbrev pub is_show_low : Entry → Bool
is_show_low (entry.ShowLow id low) = true
is_show_low _ = false

-- The room taken at opening, and one more for each posting, of cuts or prices, each replace and each cost that was shown, is enough for
-- what may still come.
pub record KeepsRoom (b : Book) : Type 0 where
  pub room : length b.history + room_of b ≤ 3 * b.case.nodes + 32 + length b.cuts + length b.plans + length b.prices + count_by is_show_low b.history
