-- How the node that the driver holds may end.
use Rattle.std.specs.Prelude.{◌≡◌}
use Rattle.lock_rules.specs.Bound.{bound_of}
use Rattle.closing_rules.specs.declared.grounds.Ground.{Ground}
use Rattle.closing_rules.specs.Grounds.{IsClosedBy}
use Rattle.book_rules.specs.Book.{Book, best_cost}
use Rattle.book_rules.specs.States.{IsHitBy}
use Rattle.lock_rules.specs.Node.{Node}
use Rattle.node_work.specs.declared.fate.Fate.{Fate}
use Rattle.node_work.specs.declared.search.Search.{Search}
use Rattle.node_work.specs.Fates.{IsNeverPriced, IsNeverSwept, IsFate}
use Rattle.node_work.specs.Known.{HitsShips}

-- the ground holds of the node, by the book's cuts and its best cost
pub record IsClosable (b : Book) (node : Node) (why : Ground) : Type 0 where
  pub closed :
      IsClosedBy b.case.instance (IsHitBy b.case.instance b.cuts) IsNeverPriced IsNeverSwept (best_cost b)
      (bound_of b.case.instance node.depth node.lines) node.depth node.lines why

-- what becomes of the node, by the book's cuts and its best cost
abbrev pub IsDriversFate : Book → Node → Fate → Type 0
IsDriversFate b node fate = IsFate (HitsShips b b.case.instance) b.case.instance b.case.turns (best_cost b) node fate

-- the search is of the book's instance and turns
pub record IsOwnSearch (b : Book) (search : Search) : Type 0 where
  pub instance_is : search.instance.now ≡ b.case.instance
  pub turns_are : search.turns ≡ b.case.turns
