-- Walks that climb the tree.
use Rattle.std.specs.Prelude.{ℕ, suc, ◌≡◌, ◌+◌, ◌≤◌, ◌+ℤ◌, ◌<ℤ◌, ◌⊎◌, List, [], ◌∷◌, length}
use Rattle.list_laws.specs.Among.{AreDistinct}
use Rattle.diff_rules.specs.declared.edges.Edge.{Edge}
use Rattle.diff_rules.specs.Differences.{value_at, edge_at, LeadsTo, total_of}
use Rattle.diff_system.specs.PathTree.{PathTree, Rises}
use Rattle.diff_system.specs.Rounds.{IsDeep}

-- each edge ends at x, or deeper than so many parent edges
abbrev pub AreAhead : List Edge → List ℕ → ℕ → ℕ → List ℕ → Type 0
AreAhead edges parents x depth [] = Unit {0}
AreAhead edges parents x depth (k ∷ ks) =
    (((edge_at edges k).to ≡ x) ⊎ IsDeep edges parents (suc depth) (edge_at edges k).to) × AreAhead edges parents x depth ks

-- The end of a walk to x, from v on: its last edge raises x, and the others are parent edges of deeper variables.
pub record IsTail (edges : List Edge) (tree : PathTree) (x v : ℕ) (numbers : List ℕ) : Type 0 where
  pub depth : ℕ
  pub rises : Rises edges tree.parents v depth 0
  pub leads : LeadsTo edges v numbers x
  pub positive : value_at tree.values x <ℤ (value_at tree.values v +ℤ total_of edges numbers)
  pub ahead : AreAhead edges tree.parents x depth numbers
  pub once : AreDistinct numbers
  pub short : length numbers + depth ≤ 17
