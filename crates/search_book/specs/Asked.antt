-- What a call through the lock did. Whoever calls doesn't know the book, but it is a sound one, and the reply is what came of it.
use Rattle.std.specs.Prelude.{ℕ, List}
use Rattle.book_rules.specs.Book.{Book}
use Rattle.book_core.specs.Keeps.{IsSound}
use Rattle.book_core.specs.declared.reply.Reply.{Reply}
use Rattle.search_book.specs.declared.ahead.Ahead.{Ahead}
use Rattle.search_book.specs.declared.event.Event.{Event}
use Rattle.search_book.specs.declared.gone.Gone.{Gone}
use Rattle.search_book.specs.declared.next.Next.{Next}
use Rattle.search_book.specs.declared.shutting.Closing.{Closing}
use Rattle.search_book.specs.Applied.{Applies}
use Rattle.search_book.specs.Following.{Follows}
use Rattle.search_book.specs.Going.{GoesAhead}
use Rattle.search_book.specs.Shutting.{Shuts}

-- a sound book was changed so
pub record WasAsked (Changes : Book → Book → Type 0) : Type 0 where
  pub before : Book
  pub after : Book
  pub sound : IsSound before
  pub changes : Changes before after

-- one event was made
abbrev pub WasMade : Event → Reply → Type 0
WasMade e r = WasAsked (λ old new. Applies old e r new)

-- an event was made, and a taking by worker w after it
abbrev pub WasFollowed : Event → ℕ → Next → Type 0
WasFollowed e w next = WasAsked (λ old new. Follows old e w next new)

-- a slot was closed by what was found beside the book, and a taking by worker w made after it
abbrev pub WasShut : Closing → ℕ → Next → Type 0
WasShut closing w next = WasAsked (λ old new. Shuts old closing w next new)

-- worker w, who held slot id, went ahead over these nodes
abbrev pub WentAhead : ℕ → ℕ → List Ahead → Gone → Type 0
WentAhead w id nodes gone = WasAsked (λ old new. GoesAhead w old id nodes gone.place gone new)
