-- The moorings of a node's lines, as they are made.
use Rattle.std.specs.Prelude.{ℕ, ◌≡◌, ◌+◌, ◌<◌, List, length, All, sum_by, slice_index_or}
use Rattle.lock_model.specs.declared.instance.Instance.{Instance}
use Rattle.lock_model.specs.declared.group.Group.{Group}
use Rattle.lock_rules.specs.Arrival.{numbers_from}
use Rattle.lock_rules.specs.Node.{line_at}
use Rattle.book_rules.specs.Book.{no_group}
use Rattle.node_work.specs.declared.moorings.Mooring.{Mooring}
use Rattle.node_work.specs.declared.whole.Row.{Row}
use Rattle.node_work.specs.Moorings.{IsLegallyMoored, HasMooring}

-- the first n groups of a line of chamber c are moored beside what was moored before
pub record IsMooredUpTo (I : Instance) (c : ℕ) (line : List Group) (n : ℕ) (old new : List Mooring) : Type 0 where
  pub count : length new ≡ length old + n
  pub legal : All (IsLegallyMoored I) old → All (IsLegallyMoored I) new
  pub kept : (d : ℕ) (S : List ℕ) → HasMooring old d S → HasMooring new d S
  pub each : (k : ℕ) → k < n → HasMooring new c (slice_index_or line k no_group).ships

-- all groups of the row's line are
abbrev pub IsMooredLine : Instance → Row → List Mooring → List Mooring → Type 0
IsMooredLine I row = IsMooredUpTo I row.chamber (line_at row.node.now.lines row.chamber) (length (line_at row.node.now.lines row.chamber))

-- the groups of the lines of the first m chambers are moored
pub record AreMooredBelow (I : Instance) (lines : List (List Group)) (m : ℕ) (moorings : List Mooring) : Type 0 where
  pub count : length moorings ≡ sum_by (λ c. length (line_at lines c)) (numbers_from 0 m)
  pub legal : All (IsLegallyMoored I) moorings
  pub each : (c k : ℕ) → c < m → k < length (line_at lines c) → HasMooring moorings c (slice_index_or (line_at lines c) k no_group).ships
