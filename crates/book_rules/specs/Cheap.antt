-- How the slots of a book count the cheap nodes of the tree: those whose bound is below the opening cost.
use Rattle.std.specs.Prelude.{ℕ, ◌≡◌, ◌+◌, ◌≤◌, List, [], ◌∷◌, nat_lt, if◌then◌else◌}
use Rattle.lock_model.specs.declared.instance.Instance.{Instance}
use Rattle.lock_rules.specs.Plan.{cost_of}
use Rattle.lock_rules.specs.Node.{root_lines}
use Rattle.lock_rules.specs.Cheap.{cheap_nodes}
use Rattle.book_rules.specs.Book.{Slot, Book, best_cost, is_fresh}
use Rattle.book_rules.specs.NextSlot.{is_split}
use Rattle.book_rules.specs.Room.{count_slots}

-- the cost of the plan with which the book was opened
abbrev pub opening_cost : Book → ℕ
opening_cost b = cost_of b.case.instance b.opening

-- how many slots have a bound below c
abbrev pub count_cheap : ℕ → List Slot → ℕ
count_cheap c [] = 0
count_cheap c (s ∷ ss) = (if nat_lt s.bound c then 1 else 0) + count_cheap c ss

-- a Split slot counts for itself, any other one for its node and all nodes below it
abbrev pub share_of : Instance → ℕ → Slot → ℕ
share_of I c s = if is_split s.state then (if nat_lt s.bound c then 1 else 0) else cheap_nodes I c s.node.depth s.node.lines

abbrev pub sum_shares : Instance → ℕ → List Slot → ℕ
sum_shares I c [] = 0
sum_shares I c (s ∷ ss) = share_of I c s + sum_shares I c ss

-- The best cost never rises, each node used and each Fresh slot is cheap, and the slots' shares are all cheap nodes.
pub record KeepsCheap (b : Book) : Type 0 where
  pub best : best_cost b ≤ opening_cost b
  pub used : b.used + count_slots is_fresh b.slots ≤ count_cheap (opening_cost b) b.slots
  pub all : cheap_nodes b.case.instance (opening_cost b) 0 root_lines ≡ sum_shares b.case.instance (opening_cost b) b.slots
