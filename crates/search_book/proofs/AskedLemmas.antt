-- What a call through the lock did to a book.
use Rattle.std.proofs.Common.{ℕ, List}
use Rattle.book_rules.specs.Book.{Book}
use Rattle.book_core.specs.Keeps.{IsSound}
use Rattle.book_core.specs.declared.reply.Reply.{Reply}
use Rattle.search_book.specs.declared.ahead.Ahead.{Ahead}
use Rattle.search_book.specs.declared.event.Event.{Event}
use Rattle.search_book.specs.declared.gone.Gone.{Gone}
use Rattle.search_book.specs.declared.next.Next.{Next}
use Rattle.search_book.specs.declared.shutting.Closing.{Closing}
use Rattle.search_book.specs.Applied.{Applies}
use Rattle.search_book.specs.Asked.{WasMade, WasFollowed, WasShut, WentAhead}
use Rattle.search_book.specs.Following.{Follows}
use Rattle.search_book.specs.Going.{GoesAhead}
use Rattle.search_book.specs.Shutting.{Shuts}

pub was_made : (old new : Book) (e : Event) (r : Reply) → IsSound old → Applies old e r new → WasMade e r
was_made old new e r sound changes = record { before = old; after = new; sound = sound; changes = changes }

pub was_followed : (old new : Book) (e : Event) (w : ℕ) (next : Next) → IsSound old → Follows old e w next new → WasFollowed e w next
was_followed old new e w next sound changes = record { before = old; after = new; sound = sound; changes = changes }

pub was_shut : (old new : Book) (closing : Closing) (w : ℕ) (next : Next) → IsSound old → Shuts old closing w next new → WasShut closing w next
was_shut old new closing w next sound changes = record { before = old; after = new; sound = sound; changes = changes }

pub went_ahead : (old new : Book) (w id : ℕ) (nodes : List Ahead) (gone : Gone) → IsSound old → GoesAhead w old id nodes gone.place gone new → WentAhead w id nodes gone
went_ahead old new w id nodes gone sound changes = record { before = old; after = new; sound = sound; changes = changes }
