-- When what begins with a successor is known to be worth no less than a number.
use Rattle.std.specs.Prelude.{ℕ, ◌≡◌, ◌⊎◌, ℤ, pos, ◌+ℤ◌, ◌≤ℤ◌, None, List, drop}
use Rattle.lock_model.specs.declared.group.Group.{Group}
use Rattle.lock_model.specs.declared.way.Stand.{Stand}
use Rattle.lock_rules.specs.Lawful.{stand_after}
use Rattle.price_successors.specs.declared.successor.Successor.{Successor}
use Rattle.price_groups.specs.Asks.{LineAsk, IsLooseIn, group_end, group_worth, line_worth}
use Rattle.price_successors.specs.Successors.{Leads}

-- all lines that go on behind the group from place q are worth at least this
abbrev pub IsBelow : LineAsk → Stand → ℕ → ℕ → ℤ → Group → Type 0
IsBelow L stand from q best g =
    (gs : List Group) → IsLooseIn L (drop q L.line) gs
    → best ≤ℤ (group_worth L stand from g +ℤ line_worth L (stand_after g.way) (group_end L stand from g) gs)

-- missing ships alone that gain nothing may be left out
abbrev pub IsIdle : LineAsk → Stand → ℕ → Successor → Type 0
IsIdle L stand from successor = (successor.joins ≡ None) × (pos 0 ≤ℤ group_worth L stand from successor.group)

-- The successor is counted: what begins with it from place p is worth at least this, or it may be left out.
abbrev pub IsCounted : LineAsk → Stand → ℕ → ℕ → ℤ → Successor → Type 0
IsCounted L stand from p best successor =
    (q : ℕ) → Leads successor.joins p q → IsBelow L stand from q best successor.group ⊎ IsIdle L stand from successor
