-- What closing a slot by prices and a taking after it do.
use Rattle.std.specs.Prelude.{ℕ, ◌≡◌, true, false}
use Rattle.book_rules.specs.Book.{Book}
use Rattle.book_rules.specs.Events as machine
use Rattle.book_core.specs.declared.reply.Reply.{Reply}
use Rattle.book_core.specs.Replies.{Answers}
use Rattle.book_core.specs.Telling.{told_shown}
use Rattle.search_book.specs.declared.next.Next.{Next}
use Rattle.search_book.specs.declared.next.Next.TheVariants as next
use Rattle.search_book.specs.declared.shutting.Closing.{Closing}
use Rattle.search_book.specs.Applied.{Takes}
use Rattle.search_book.specs.Replies.{is_accepting}

-- the machine's event that closes a slot by prices
abbrev pub closing_event : Closing → machine.Event
closing_event closing = machine.close_price closing.id closing.number (told_shown closing.shown.now)

-- the closing was refused, and that is all
pub record IsShutRefused (old : Book) (closing : Closing) (r : Reply) (new : Book) : Type 0 where
  pub step : Answers old (closing_event closing) r new
  pub refused : is_accepting r ≡ false
  pub same : new ≡ old

-- the slot was closed, and then worker w took a slot or was refused
pub record IsShut (old : Book) (closing : Closing) (w : ℕ) (r : Reply) (new : Book) : Type 0 where
  pub ended : Reply
  pub between : Book
  pub step : Answers old (closing_event closing) ended between
  pub accepted : is_accepting ended ≡ true
  pub taken : Takes between w r new

abbrev pub Shuts : Book → Closing → ℕ → Next → Book → Type 0
Shuts old closing w (next.Refused r) new = IsShutRefused old closing r new
Shuts old closing w (next.Taken r) new = IsShut old closing w r new
