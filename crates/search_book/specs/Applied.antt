-- What an event does to a book: what the method of its name does.
use Rattle.std.specs.Prelude.{ℕ}
use Rattle.book_rules.specs.Book.{Book}
use Rattle.book_rules.specs.Events as machine
use Rattle.book_core.specs.declared.reply.Reply.{Reply}
use Rattle.book_core.specs.Replies.{Answers, Does, HasNode}
use Rattle.search_book.specs.declared.event.Event.{Event}
use Rattle.search_book.specs.declared.event.Event.TheVariants as event
use Rattle.search_book.specs.Events.{event_of}

-- a step, and a node that is given is one of the instance
pub record Takes (old : Book) (w : ℕ) (r : Reply) (new : Book) : Type 0 where
  pub step : Answers old (machine.take w) r new
  pub node : HasNode old.case.instance r

-- Splitting, posting (cuts or prices) and replacing may find no memory, and then the book is as it was; each other event is a step of the machine.
abbrev pub Applies : Book → Event → Reply → Book → Type 0
Applies old (event.Take w) r new = Takes old w r new
Applies old (event.Split id) r new = Does old (machine.split id) r new
Applies old (event.Post cut) r new = Does old (machine.post cut.value) r new
Applies old (event.Replace plan) r new = Does old (machine.replace plan.value) r new
Applies old (event.PostPrices prices) r new = Does old (machine.post_prices prices.value) r new
Applies old e r new = Answers old (event_of e) r new
