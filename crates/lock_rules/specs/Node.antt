-- Nodes of the search tree: lists of groups, one for each chamber.
use Rattle.std.specs.Prelude.{ℕ, ◌≡◌, ◌+◌, ◌≤◌, ◌<◌, List, [], ◌∷◌, length, replicate, slice_index_or, All}
use Rattle.std.specs.List.Sorted.{IsStrictlyIncreasing}
use Rattle.lock_model.specs.declared.limits.TheConstants.{CHAMBERS}
use Rattle.lock_model.specs.Limits.{Within}
use Rattle.lock_model.specs.Fleet.{ship_at, chamber_at}
use Rattle.lock_model.specs.declared.instance.Instance.{Instance}
use Rattle.lock_model.specs.declared.group.Group.{Group}
use Rattle.lock_rules.specs.Plan.{times_in}
use Rattle.lock_rules.specs.Arrival.{first_ships}

-- the line of chamber c among the lines of a node
abbrev pub line_at : List (List Group) → ℕ → List Group
line_at lines c = slice_index_or lines c []

-- how often a ship stands in a line, and in the lines of a node
abbrev pub times_on : ℕ → List Group → ℕ
times_on s [] = 0
times_on s (g ∷ gs) = times_in g.ships s + times_on s gs

abbrev pub times_held : ℕ → List (List Group) → ℕ
times_held s [] = 0
times_held s (line ∷ lines) = times_on s line + times_held s lines

-- how many ships stand in a line, and in the lines of a node
abbrev pub size_on : List Group → ℕ
size_on [] = 0
size_on (g ∷ gs) = length g.ships + size_on gs

abbrev pub size_held : List (List Group) → ℕ
size_held [] = 0
size_held (line ∷ lines) = size_on line + size_held lines

-- what the type of nodes keeps: a line for each chamber there may be, no empty group, no ship twice, k ships together
pub record KeepsNode (k : ℕ) (lines : List (List Group)) : Type 0 where
  pub four : length lines ≡ CHAMBERS
  pub some : All (All (λ g. 1 ≤ length g.ships)) lines
  pub once : (s : ℕ) → times_held s lines ≤ 1
  pub depth : size_held lines ≡ k

-- a group that chamber c may serve, if its ships fit
pub record IsNodeGroup (I : Instance) (c : ℕ) (g : Group) : Type 0 where
  pub rising : IsStrictlyIncreasing g.ships
  pub count : Within 1 (chamber_at I c).most (length g.ships)
  pub way : All (λ s. (ship_at I s).way ≡ g.way) g.ships

-- A node of the instance: the first k ships, each once, in groups that their chambers may serve; no group past the last chamber.
pub record IsNode (I : Instance) (k : ℕ) (lines : List (List Group)) : Type 0 where
  pub four : length lines ≡ CHAMBERS
  pub depth : k ≤ length I.ships
  pub held : (s : ℕ) → times_held s lines ≡ times_in (first_ships I k) s
  pub groups : (c : ℕ) → c < length I.chambers → All (IsNodeGroup I c) (line_at lines c)
  pub past : (c : ℕ) → length I.chambers ≤ c → line_at lines c ≡ []

-- a node: how many ships it holds, and its lists of groups
pub record Node : Type 0 where
  pub depth : ℕ
  pub lines : List (List Group)

-- the node of depth 0
abbrev pub root_lines : List (List Group)
root_lines = replicate CHAMBERS []

abbrev pub root : Node
root = record { depth = 0; lines = root_lines }
