-- A slot in the driver's hand.
use Rattle.std.specs.Prelude.{ℕ}
use Rattle.book_rules.specs.Book.{Book, slot_at}
use Rattle.lock_rules.specs.Node.{Node}
use Rattle.solve_workers.specs.Holding.{HoldsOnly}

-- the node of slot id
abbrev pub node_at : Book → ℕ → Node
node_at b id = (slot_at b id).node

-- the driver holds this slot alone
abbrev pub HoldsSlot : Book → ℕ → Type 0
HoldsSlot b id = HoldsOnly b id (node_at b id)
