-- How deep variables lie in the tree, and how high their values are.
use Rattle.std.proofs.Common.{◌≡◌, ◌≢◌, ℕ, zero, suc, ◌*◌, ◌<◌, ◌≤◌, pos, ◌≤ℤ◌, List, [], ◌∷◌, length, inl, inr, refl, sym, ap, ◌∙◌, subst, arith, All}
use Rattle.std.proofs.lemmas.Int.{ints}
use Rattle.std.proofs.lemmas.List.{get_or_default}
use Rattle.std.specs.List.{AllByRecursion}
use Rattle.diff_rules.specs.declared.edges.Edge.{Edge}
use Rattle.diff_rules.specs.Differences.{value_at, edge_at, no_edge, Obeys, IsSystem}
use Rattle.diff_system.specs.PathTree.{PathTree, parent_at, above, Rises, depth_of, IsParent, IsPathTree, AreLongest}
use Rattle.list_laws.specs.Among.{IsAmong, AreDistinct}
use Rattle.list_laws.proofs.Distinct.{few-distinct}

module _ (edges : List Edge) (parents : List ℕ) where
  -- a variable has one depth
  pub rises-unique : (d e v : ℕ) → Rises edges parents v d 0 → Rises edges parents v e 0 → d ≡ e
  rises-unique zero zero v h g = refl
  rises-unique zero (suc e) v h g = absurd (g.0 h)
  rises-unique (suc d) zero v h g = absurd (h.0 g)
  rises-unique (suc d) (suc e) v h g = ap suc (rises-unique d e (above edges parents v) h.1 g.1)

  -- the variables from v up to the origin
  chain : ℕ → ℕ → List ℕ
  chain v zero = v ∷ []
  chain v (suc d) = v ∷ chain (above edges parents v) d

  chain-length : (d v : ℕ) → length (chain v d) ≡ suc d
  unfolding chain
  chain-length zero v = refl
  chain-length (suc d) v = ap suc (chain-length d (above edges parents v))

  among-chain : (d v x : ℕ) → Rises edges parents v d 0 → IsAmong (chain v d) x → (e : ℕ) × Rises edges parents x e 0 × (e ≤ d)
  unfolding chain
  among-chain zero v x h (inl e) = (0, sym e ∙ h, omega arith)
  among-chain zero v x h (inr g) = absurd g
  among-chain (suc d) v x h (inl e) = (suc d, subst (λ w. Rises edges parents w (suc d) 0) e h, omega arith)
  among-chain (suc d) v x h (inr g) = let r = among-chain d (above edges parents v) x h.1 g in let less = r.2 in (r.0, r.1, omega (arith, less))

  chain-distinct : (d v : ℕ) → Rises edges parents v d 0 → AreDistinct (chain v d)
  unfolding chain
  chain-distinct zero v h = ((λ g. g), tt)
  chain-distinct (suc d) v h = ((λ g. away (among-chain d (above edges parents v) v h.1 g)), chain-distinct d (above edges parents v) h.1)
    where
      away : (e : ℕ) × Rises edges parents v e 0 × (e ≤ d) → ⊥
      away r = let same = rises-unique (suc d) r.0 v h r.1 in let less = r.2 in omega (arith, same, less)

  chain-below : (vars : ℕ) → ((v : ℕ) → v < vars → v ≢ 0 → above edges parents v < vars) → (d v : ℕ) → v < vars → Rises edges parents v d 0 → AllByRecursion (λ x. x < vars) (chain v d)
  unfolding chain
  chain-below vars closed zero v known h = (known, tt)
  chain-below vars closed (suc d) v known h = (known, chain-below vars closed d (above edges parents v) (closed v known h.0) h.1)

  pub few-above : (vars : ℕ) → ((v : ℕ) → v < vars → v ≢ 0 → above edges parents v < vars) → (d v : ℕ) → v < vars → Rises edges parents v d 0 → suc d ≤ vars
  few-above vars closed d v known h =
      let few = few-distinct vars (chain v d) (chain-distinct d v h) (chain-below vars closed d v known h) in
      let long = chain-length d v in
      omega (arith, few, long)

  -- `depth_of` gives the depth
  pub depth-is : (n d v : ℕ) → d ≤ n → Rises edges parents v d 0 → depth_of edges parents n v ≡ d
  depth-is zero d v few h = omega (arith, few)
  depth-is (suc n) zero zero few h = refl
  depth-is (suc n) zero (suc v) few h = absurd (omega (arith, h))
  depth-is (suc n) (suc d) zero few h = absurd (h.0 refl)
  depth-is (suc n) (suc d) (suc v) few h = ap suc (depth-is n d (above edges parents (suc v)) (omega (arith, few)) h.1)

module _ (edges : List Edge) (vars : ℕ) (system : IsSystem edges vars) (tree : PathTree) (parent : (v : ℕ) → v < vars → v ≢ 0 → IsParent edges tree v) where
  pub above-below : (v : ℕ) → v < vars → v ≢ 0 → above edges tree.parents v < vars
  above-below v known away = (system.ends (parent_at tree.parents v) no_edge (parent v known away).known).0

  pub depth-few : (d v : ℕ) → v < vars → Rises edges tree.parents v d 0 → suc d ≤ vars
  depth-few d v known h = few-above edges tree.parents vars above-below d v known h

  -- so many edges give no more than their greatest weight each
  pub value-high : value_at tree.values 0 ≡ pos 0 → (d v : ℕ) → v < vars → Rises edges tree.parents v d 0 → value_at tree.values v ≤ℤ pos (1000000 * d)
  value-high origin zero v known h =
      let same : value_at tree.values v ≡ value_at tree.values 0 = ap (value_at tree.values) h in
      omega (arith, ints, same, origin)
  value-high origin (suc d) v known h =
      let rest = value-high origin d (above edges tree.parents v) (above-below v known h.0) h.1 in
      let bound = (parent v known h.0).bound in
      let weight = (system.weights (parent_at tree.parents v) no_edge (parent v known h.0).known).1 in
      omega (arith, ints, rest, bound, weight)

-- the depth falls on the way up
pub depth-falls : (edges : List Edge) (vars : ℕ) → IsSystem edges vars → (tree : PathTree) → IsPathTree edges vars tree → (v : ℕ) → v < vars → v ≢ 0 → depth_of edges tree.parents 17 (above edges tree.parents v) < depth_of edges tree.parents 17 v
depth-falls edges vars system tree is v known away = falls (is.rooted v known).depth (is.rooted v known).rises
  where
    falls : (d : ℕ) → Rises edges tree.parents v d 0 → depth_of edges tree.parents 17 (above edges tree.parents v) < depth_of edges tree.parents 17 v
    falls zero h = absurd (away h)
    falls (suc d) h =
        let few = depth-few edges vars system tree is.parent (suc d) v known h in
        let most = system.few in
        let here = depth-is edges tree.parents 17 (suc d) v (omega (arith, few, most)) h in
        let there = depth-is edges tree.parents 17 d (above edges tree.parents v) (omega (arith, few, most)) h.1 in
        omega (arith, here, there)

-- where all edges are obeyed, the values are the least solution
pub all-obeyed : (edges : List Edge) (vars : ℕ) (tree : PathTree) → IsPathTree edges vars tree → ((k : ℕ) → k < length edges → Obeys tree.values (edge_at edges k)) → AreLongest edges vars tree
all-obeyed edges vars tree is obeyed = record {
  least = record {
    solution = record { count = is.values_count; origin = is.origin; obeyed = all };
    least = is.below;
  };
  is_tree = is;
}
  where
    all : All (Obeys tree.values) edges
    all k d known = subst (Obeys tree.values) (get_or_default edges k no_edge d known) (obeyed k known)
