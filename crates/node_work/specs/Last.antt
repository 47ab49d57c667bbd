-- The group that a ship is in.
use Rattle.std.specs.Prelude.{ℕ, ◌<◌, List, length, Contains, slice_index_or}
use Rattle.lock_model.specs.declared.group.Group.{Group}
use Rattle.lock_rules.specs.Node.{line_at}
use Rattle.book_rules.specs.Book.{no_group}

-- group p of the line has the ship
pub record IsInGroup (line : List Group) (s p : ℕ) : Type 0 where
  pub place : p < length line
  pub has : Contains (slice_index_or line p no_group).ships s

-- no group before group n of the line has the ship
pub record IsLacked (line : List Group) (s n : ℕ) : Type 0 where
  pub none : (p : ℕ) → p < n → Contains (slice_index_or line p no_group).ships s → ⊥

-- no group of the lines of the first n chambers has the ship
pub record IsLackedBelow (lines : List (List Group)) (s n : ℕ) : Type 0 where
  pub none : (c : ℕ) → c < n → IsLacked (line_at lines c) s (length (line_at lines c))
