-- Longest paths from the origin: values, and a tree of the edges that gave them.
use Rattle.std.specs.Prelude.{ℕ, zero, suc, ◌≡◌, ◌≢◌, ◌<◌, ◌≤◌, ℤ, pos, ◌+ℤ◌, ◌≤ℤ◌, List, length, slice_index_or}
use Rattle.diff_rules.specs.declared.edges.Edge.{Edge}
use Rattle.diff_rules.specs.Differences.{value_at, edge_at, AreSolution, AreLeast}

-- for each variable its value, and the number of the edge that raised it last (of no meaning at the origin)
pub record PathTree : Type 0 where
  pub values : List ℤ
  pub parents : List ℕ

-- the number of the parent edge of variable v
abbrev pub parent_at : List ℕ → ℕ → ℕ
parent_at parents v = slice_index_or parents v 0

-- the variable that the parent edge of v comes from
abbrev pub above : List Edge → List ℕ → ℕ → ℕ
above edges parents v = (edge_at edges (parent_at parents v)).from

-- d parent edges lead up from v to u, and none of them is the origin's
abbrev pub Rises : List Edge → List ℕ → ℕ → ℕ → ℕ → Type 0
Rises edges parents v zero u = v ≡ u
Rises edges parents v (suc d) u = (v ≢ 0) × Rises edges parents (above edges parents v) d u

-- how many parent edges lead from v up to the origin, where that is at most n
abbrev pub depth_of : List Edge → List ℕ → ℕ → ℕ → ℕ
depth_of edges parents zero v = 0
depth_of edges parents (suc n) zero = 0
depth_of edges parents (suc n) (suc v) = suc (depth_of edges parents n (above edges parents (suc v)))

-- u is v or an ancestor of it
pub record IsAbove (edges : List Edge) (parents : List ℕ) (u v : ℕ) : Type 0 where
  pub depth : ℕ
  pub rises : Rises edges parents v depth u

-- The parent edge of v exists, ends there, and v isn't higher than it asks.
pub record IsParent (edges : List Edge) (tree : PathTree) (v : ℕ) : Type 0 where
  pub known : parent_at tree.parents v < length edges
  pub ends : (edge_at edges (parent_at tree.parents v)).to ≡ v
  pub bound : value_at tree.values v ≤ℤ (value_at tree.values (above edges tree.parents v) +ℤ (edge_at edges (parent_at tree.parents v)).weight)

-- at most 16 edges of weight up to 1,000,000 lead to a variable
pub record IsSmall (values : List ℤ) (v : ℕ) : Type 0 where
  pub low : pos 0 ≤ℤ value_at values v
  pub high : value_at values v ≤ℤ pos 16000000

-- Values on their way up: a tree whose root is the origin, and values that no solution is below.
pub record IsPathTree (edges : List Edge) (vars : ℕ) (tree : PathTree) : Type 0 where
  pub values_count : length tree.values ≡ vars
  pub parents_count : length tree.parents ≡ vars
  pub origin : value_at tree.values 0 ≡ pos 0
  pub small : (v : ℕ) → v < vars → IsSmall tree.values v
  pub parent : (v : ℕ) → v < vars → v ≢ 0 → IsParent edges tree v
  pub rooted : (v : ℕ) → v < vars → IsAbove edges tree.parents 0 v
  pub below : (others : List ℤ) → AreSolution edges vars others → (v : ℕ) → v < vars → value_at tree.values v ≤ℤ value_at others v

-- the least solution of the edges, and a tree of edges that gives it
pub record AreLongest (edges : List Edge) (vars : ℕ) (tree : PathTree) : Type 0 where
  pub least : AreLeast edges vars tree.values
  pub is_tree : IsPathTree edges vars tree

-- the edge leads from the origin to v, with a weight of 0 or more
pub record IsOriginEdge (e : Edge) (v : ℕ) : Type 0 where
  pub from : e.from ≡ 0
  pub to : e.to ≡ v
  pub weight : pos 0 ≤ℤ e.weight

-- variable v before the first round: an edge from the origin gives its value
pub record IsBegun (edges : List Edge) (tree : PathTree) (v : ℕ) : Type 0 where
  pub known : parent_at tree.parents v < length edges
  pub edge : IsOriginEdge (edge_at edges (parent_at tree.parents v)) v
  pub value : value_at tree.values v ≡ (edge_at edges (parent_at tree.parents v)).weight

-- what holds of the variables before i
pub record AreBegun (edges : List Edge) (tree : PathTree) (i : ℕ) : Type 0 where
  pub values : length tree.values ≡ i
  pub parents : length tree.parents ≡ i
  pub origin : value_at tree.values 0 ≡ pos 0
  pub begun : (v : ℕ) → 1 ≤ v → v < i → IsBegun edges tree v
