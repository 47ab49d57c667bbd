-- A book that has grown.
use Rattle.std.specs.Prelude.{ℕ, suc, List, [], ◌∷◌, ◌++◌, nat_le, if◌then◌else◌, None}
use Rattle.lock_model.specs.declared.instance.Instance.{Instance}
use Rattle.price_rules.specs.Prices.{PriceList}
use Rattle.refute_rules.specs.Cuts.{Cut}
use Rattle.book_rules.specs.declared.book.SlotState.TheVariants as slot
use Rattle.book_rules.specs.declared.book.Entry.TheVariants as entry
use Rattle.book_rules.specs.Book.{Book, bound_at}
use Rattle.lock_rules.specs.Node.{root}
use Rattle.book_rules.specs.Step.{noted, with_children}
use Rattle.book_core.specs.declared.stored_slot.StoredSlot.{StoredSlot}
use Rattle.closing_rules.specs.declared.grounds.Ground.TheVariants as by

-- the book with one cut more
abbrev pub kept_cut : Book → Cut → Book
kept_cut b cut = noted (record b { cuts = b.cuts ++ cut ∷ [] }) entry.Post

-- the book with prices more
abbrev pub with_prices : Book → PriceList → Book
with_prices b prices = noted (record b { prices = b.prices ++ prices ∷ [] }) entry.Prices

-- what is stored of a child with this bound
abbrev pub stored_child : ℕ → ℕ → ℕ → ℕ → StoredSlot
stored_child cost parent number bound = record {
  bound = bound;
  shown = None;
  state = if nat_le cost bound then (slot.Closed by.Bound) else slot.Fresh;
  parent = parent;
  number = number;
}

-- what is stored of children with these bounds, numbered from `number` on
abbrev pub stored_children : ℕ → ℕ → ℕ → List ℕ → List StoredSlot
stored_children cost parent number [] = []
stored_children cost parent number (bound ∷ more) = stored_child cost parent number bound ∷ stored_children cost parent (suc number) more

-- the book where slot id is split
abbrev pub with_kids : Book → ℕ → Book
with_kids b id = noted (with_children b id) (entry.Split id)

-- what is stored of the root
abbrev pub stored_root : Instance → ℕ → StoredSlot
stored_root I cost = stored_child cost 0 0 (bound_at I root)
