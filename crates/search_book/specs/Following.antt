-- What an event and a taking after it do.
use Rattle.std.specs.Prelude.{ℕ, ◌≡◌, ◌+◌, true, false}
use Rattle.book_rules.specs.Book.{Book}
use Rattle.book_core.specs.declared.reply.Reply.{Reply}
use Rattle.search_book.specs.declared.event.Event.{Event}
use Rattle.search_book.specs.declared.next.Next.{Next}
use Rattle.search_book.specs.declared.next.Next.TheVariants as next
use Rattle.search_book.specs.Applied.{Applies, Takes}
use Rattle.search_book.specs.Replies.{is_accepting, accepted}

-- how many of the two were accepted
abbrev pub counted : Next → ℕ
counted (next.Refused r) = 0
counted (next.Taken r) = accepted r + 1

-- the event was refused, and that is all
pub record IsRefused (old : Book) (e : Event) (r : Reply) (new : Book) : Type 0 where
  pub step : Applies old e r new
  pub refused : is_accepting r ≡ false
  pub same : new ≡ old

-- the event was accepted, and then worker w took a slot or was refused
pub record IsFollowed (old : Book) (e : Event) (w : ℕ) (r : Reply) (new : Book) : Type 0 where
  pub ended : Reply
  pub between : Book
  pub step : Applies old e ended between
  pub accepted : is_accepting ended ≡ true
  pub taken : Takes between w r new

abbrev pub Follows : Book → Event → ℕ → Next → Book → Type 0
Follows old e w (next.Refused r) new = IsRefused old e r new
Follows old e w (next.Taken r) new = IsFollowed old e w r new
