-- What nodes that were worked out ahead do to a book, one after the other.
use Rattle.std.specs.Prelude.{ℕ, zero, suc, ◌≡◌, ◌+◌, ◌*◌, List, [], ◌∷◌}
use Rattle.book_rules.specs.Book.{Book}
use Rattle.book_core.specs.declared.reply.Reply.TheVariants as reply
use Rattle.search_book.specs.declared.ahead.Ahead.{Ahead}
use Rattle.search_book.specs.declared.ahead.Ending.{Ending}
use Rattle.search_book.specs.declared.ahead.Ending.TheVariants as ending
use Rattle.search_book.specs.declared.event.Event.{Event}
use Rattle.search_book.specs.declared.event.Event.TheVariants as event
use Rattle.search_book.specs.declared.gone.Gone.{Gone}
use Rattle.search_book.specs.declared.next.Next.{Next}
use Rattle.search_book.specs.declared.next.Next.TheVariants as next
use Rattle.search_book.specs.Following.{Follows, counted}

-- the event by which slot id ends
abbrev pub ending_of : ℕ → Ending → Event
ending_of id ending.Split = event.Split id
ending_of id (ending.Close why) = event.Close id why

-- the slot that was taken has the node that is next ahead
abbrev pub IsNextAhead : Next → List Ahead → Type 0
IsNextAhead (next.Taken (reply.Node id node)) (a ∷ rest) = node ≡ a.foreseen.node
IsNextAhead _ _ = ⊥

-- the slot in hand ended by this event, or was refused, and worker w took no slot after it that has the next node
pub record IsStop (old : Book) (e : Event) (w : ℕ) (rest : List Ahead) (last : Next) (new : Book) : Type 0 where
  pub step : Follows old e w last new
  pub off : IsNextAhead last rest → ⊥

-- the slot in hand ended by this event, and worker w took slot `taken`, which has the next node
abbrev pub Passes : Book → Event → ℕ → List Ahead → ℕ → Book → Type 0
Passes old e w [] taken new = ⊥
Passes old e w (a ∷ rest) taken new = Follows old e w (next.Taken (reply.Node taken a.foreseen.node)) new

-- Worker w, who holds slot id, passes so many of the nodes, each with the slot that was taken after the one before it, and stops at the next one.
abbrev pub GoesAhead : ℕ → Book → ℕ → List Ahead → ℕ → Gone → Book → Type 0
GoesAhead w old id [] place gone new = ⊥
GoesAhead w old id (a ∷ rest) zero gone new = (gone.id ≡ id) × IsStop old (ending_of id a.ending) w rest gone.next new
GoesAhead w old id (a ∷ rest) (suc place) gone new =
    (taken : ℕ) × (between : Book) × Passes old (ending_of id a.ending) w rest taken between × GoesAhead w between taken rest place gone new

-- how many events were accepted: two for each node that was passed, and those of the last one
abbrev pub gone_count : Gone → ℕ
gone_count gone = 2 * gone.place + counted gone.next
