-- Rounds over the edges, each raising the values that an edge asks more of.
use Rattle.std.specs.Prelude.{ℕ, suc, ◌≡◌, ◌<◌, ◌≤◌, ℤ, ◌+ℤ◌, ◌<ℤ◌, ◌⊎◌, Bool, true, false, List, length, set, Result, Ok, Err}
use Rattle.diff_rules.specs.declared.edges.Edge.{Edge}
use Rattle.diff_rules.specs.Differences.{value_at, edge_at, Obeys, IsSimpleCycle}
use Rattle.diff_system.specs.PathTree.{PathTree, Rises, IsAbove, IsPathTree}

-- the edge asks more of its end than the value there
pub record Raises (values : List ℤ) (e : Edge) : Type 0 where
  pub higher : value_at values e.to <ℤ (value_at values e.from +ℤ e.weight)

-- the tree once edge k has raised its end
abbrev pub raised_by : List Edge → PathTree → ℕ → PathTree
raised_by edges tree k = record {
  values = set tree.values (edge_at edges k).to (value_at tree.values (edge_at edges k).from +ℤ (edge_at edges k).weight);
  parents = set tree.parents (edge_at edges k).to k;
}

-- Edge k raised its end, which isn't above its beginning.
pub record IsRaised (edges : List Edge) (old new : PathTree) (k : ℕ) : Type 0 where
  pub raises : Raises old.values (edge_at edges k)
  pub away : IsAbove edges old.parents (edge_at edges k).to (edge_at edges k).from → ⊥
  pub is : new ≡ raised_by edges old k

-- What a look at edge k gives: nothing to raise, a value raised, or a closed walk of positive total.
abbrev pub IsRelaxed : List Edge → PathTree → PathTree → ℕ → Result Bool (List ℕ) → Type 0
IsRelaxed edges old new k (Ok false) = (new ≡ old) × Obeys old.values (edge_at edges k)
IsRelaxed edges old new k (Ok true) = IsRaised edges old new k
IsRelaxed edges old new k (Err numbers) = IsSimpleCycle edges numbers

-- at least r parent edges lead from the origin to v
pub record IsDeep (edges : List Edge) (parents : List ℕ) (r v : ℕ) : Type 0 where
  pub depth : ℕ
  pub rises : Rises edges parents v depth 0
  pub deep : r ≤ depth

-- Edge k is obeyed, or it begins at a variable to which at least r edges lead.
pub record IsSettled (edges : List Edge) (tree : PathTree) (r k : ℕ) : Type 0 where
  pub settled : Obeys tree.values (edge_at edges k) ⊎ IsDeep edges tree.parents r (edge_at edges k).from

-- after r rounds: what holds of the edges before the first that is looked at, and of the rest
pub record IsReady (edges : List Edge) (tree : PathTree) (first r : ℕ) : Type 0 where
  pub obeyed : (k : ℕ) → k < first → Obeys tree.values (edge_at edges k)
  pub rest : (k : ℕ) → first ≤ k → k < length edges → IsSettled edges tree r k

-- in a further round, once the edges before n are looked at
pub record IsPartly (edges : List Edge) (tree : PathTree) (n r : ℕ) : Type 0 where
  pub done : (k : ℕ) → k < n → IsSettled edges tree (suc r) k
  pub rest : (k : ℕ) → n ≤ k → k < length edges → IsSettled edges tree r k

-- what a round has done once the edges before n are looked at
pub record IsUnderway (edges : List Edge) (vars : ℕ) (old tree : PathTree) (first n : ℕ) (raised : Bool) : Type 0 where
  pub is_tree : IsPathTree edges vars tree
  pub still : raised ≡ false → (tree ≡ old) × ((k : ℕ) → first ≤ k → k < n → Obeys old.values (edge_at edges k))
  pub partly : (r : ℕ) → IsReady edges old first r → IsPartly edges tree n r

-- what a round from edge `first` on does
abbrev pub IsRound : List Edge → ℕ → PathTree → PathTree → ℕ → Result Bool (List ℕ) → Type 0
IsRound edges vars old new first (Ok raised) = IsUnderway edges vars old new first (length edges) raised
IsRound edges vars old new first (Err numbers) = IsSimpleCycle edges numbers
