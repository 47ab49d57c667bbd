-- The trees that a solver begins with.
use Rattle.std.proofs.Common.{◌≡◌, ◌≢◌, ℕ, zero, suc, ◌+◌, ◌<◌, ◌≤◌, ℤ, pos, ◌+ℤ◌, ◌≤ℤ◌, List, [], ◌∷◌, ◌++◌, length, take, inl, inr, refl, sym, ap, ◌∙◌, subst, arith, slice_index_or}
use Rattle.std.proofs.lemmas.Int.{ints}
use Rattle.std.proofs.lemmas.Bool.Decides.{eqb_tells}
use Rattle.std.proofs.lemmas.List.{get_or-take, length-take-le, length-append}
use Rattle.diff_rules.specs.declared.edges.Edge.{Edge}
use Rattle.diff_rules.specs.Differences.{value_at, edge_at, no_edge, Obeys, AreSolution, IsSystem}
use Rattle.diff_system.specs.PathTree.{PathTree, parent_at, above, Rises, IsAbove, IsParent, IsSmall, IsPathTree, AreLongest, IsOriginEdge, IsBegun, AreBegun}

-- an edge from the origin to each variable makes a tree
module _ (edges : List Edge) (vars : ℕ) (system : IsSystem edges vars) (tree : PathTree) (begun : (v : ℕ) → 1 ≤ v → v < vars → IsBegun edges tree v) (origin : value_at tree.values 0 ≡ pos 0) where
  begun-parent : (v : ℕ) → v < vars → v ≢ 0 → IsParent edges tree v
  begun-parent v known n =
      let b = begun v (omega (arith, n)) known in
      let value = b.value in
      let same : value_at tree.values (above edges tree.parents v) ≡ value_at tree.values 0 = ap (value_at tree.values) b.edge.from in
      record { known = b.known; ends = b.edge.to; bound = omega (arith, ints, value, same, origin) }

  begun-rooted : (v : ℕ) → v < vars → IsAbove edges tree.parents 0 v
  begun-rooted zero known = record { depth = 0; rises = refl }
  begun-rooted (suc v) known = record { depth = 1; rises = (omega arith, (begun (suc v) (omega arith) known).edge.from) }

  begun-small : (v : ℕ) → v < vars → IsSmall tree.values v
  begun-small zero known = record { low = omega (arith, ints, origin); high = omega (arith, ints, origin) }
  begun-small (suc v) known =
      let b = begun (suc v) (omega arith) known in
      let value = b.value in
      let low = b.edge.weight in
      let high = (system.weights (parent_at tree.parents (suc v)) no_edge b.known).1 in
      record { low = omega (arith, ints, value, low); high = omega (arith, ints, value, high) }

  begun-below : (others : List ℤ) → AreSolution edges vars others → (v : ℕ) → v < vars → value_at tree.values v ≤ℤ value_at others v
  begun-below others solution zero known = let o = solution.origin in omega (arith, ints, o, origin)
  begun-below others solution (suc v) known =
      let b = begun (suc v) (omega arith) known in
      let value = b.value in
      let far = (solution.obeyed (parent_at tree.parents (suc v)) no_edge b.known).far in
      let o = solution.origin in
      let from : value_at others (edge_at edges (parent_at tree.parents (suc v))).from ≡ value_at others 0 = ap (value_at others) b.edge.from in
      let to : value_at others (edge_at edges (parent_at tree.parents (suc v))).to ≡ value_at others (suc v) = ap (value_at others) b.edge.to in
      omega (arith, ints, value, far, o, from, to)

  pub begun-tree : length tree.values ≡ vars → length tree.parents ≡ vars → IsPathTree edges vars tree
  begun-tree values parents = record {
    values_count = values;
    parents_count = parents;
    origin = origin;
    small = begun-small;
    parent = begun-parent;
    rooted = begun-rooted;
    below = begun-below;
  }

-- the tree of the first edges is one of all edges
module _ (edges : List Edge) (vars n : ℕ) (tree : PathTree) (few : n ≤ length edges) (is : IsPathTree (take n edges) vars tree) where
  abbrev first : List Edge
  first = take n edges

  within : (k : ℕ) → k < length first → k < n
  within k less = let long = length-take-le n edges few in omega (arith, less, long)

  same-edge : (k : ℕ) → k < length first → edge_at first k ≡ edge_at edges k
  same-edge k less = get_or-take n edges k no_edge (within k less)

  taken-parent : (v : ℕ) → v < vars → v ≢ 0 → IsParent edges tree v
  taken-parent v known m =
      let p = is.parent v known m in
      let same = same-edge (parent_at tree.parents v) p.known in
      let less = within (parent_at tree.parents v) p.known in
      record {
        known = omega (arith, less, few);
        ends = sym (ap (λ e. e.to) same) ∙ p.ends;
        bound = subst (λ e. value_at tree.values v ≤ℤ (value_at tree.values e.from +ℤ e.weight)) same p.bound;
      }

  taken-rises : ((v : ℕ) → v < vars → v ≢ 0 → above first tree.parents v < vars) → (d v : ℕ) → v < vars → Rises first tree.parents v d 0 → Rises edges tree.parents v d 0
  taken-rises closed zero v known h = h
  taken-rises closed (suc d) v known h =
      (h.0, subst (λ p. Rises edges tree.parents p d 0) (ap (λ e. e.from) (same-edge (parent_at tree.parents v) (is.parent v known h.0).known)) (taken-rises closed d (above first tree.parents v) (closed v known h.0) h.1))

  taken-solution : (others : List ℤ) → AreSolution edges vars others → AreSolution first vars others
  taken-solution others solution = record {
    count = solution.count;
    origin = solution.origin;
    obeyed = λ k d less. let under = within k less in subst (Obeys others) (sym (get_or-take n edges k d under)) (solution.obeyed k d (omega (arith, under, few)));
  }

  pub taken-tree : IsSystem edges vars → IsPathTree edges vars tree
  taken-tree system = record {
    values_count = is.values_count;
    parents_count = is.parents_count;
    origin = is.origin;
    small = is.small;
    parent = taken-parent;
    rooted = λ v known. let root = is.rooted v known in record { depth = root.depth; rises = taken-rises closed root.depth v known root.rises };
    below = λ others solution. is.below others (taken-solution others solution);
  }
    where
      closed : (v : ℕ) → v < vars → v ≢ 0 → above first tree.parents v < vars
      closed v known m =
          let p = is.parent v known m in
          let under = within (parent_at tree.parents v) p.known in
          subst (λ e. e.from < vars) (sym (same-edge (parent_at tree.parents v) p.known)) (system.ends (parent_at tree.parents v) no_edge (omega (arith, under, few))).0

-- the edges that a least solution obeys
pub longest-obeyed : (edges : List Edge) (vars n : ℕ) (tree : PathTree) → n ≤ length edges → AreLongest (take n edges) vars tree → (k : ℕ) → k < n → Obeys tree.values (edge_at edges k)
longest-obeyed edges vars n tree few longest k less =
    let long = length-take-le n edges few in
    subst (Obeys tree.values) (get_or-take n edges k no_edge less) (longest.least.solution.obeyed k no_edge (omega (arith, less, long)))

-- ---- variable by variable

pushed-same : {X : Type 0} (xs : List X) (x d : X) → slice_index_or (xs ++ x ∷ []) (length xs) d ≡ x
pushed-same [] x d = refl
pushed-same (y ∷ xs) x d = pushed-same xs x d

pushed-before : {X : Type 0} (xs : List X) (x d : X) (i : ℕ) → i < length xs → slice_index_or (xs ++ x ∷ []) i d ≡ slice_index_or xs i d
pushed-before [] x d i less = absurd (omega (arith, less))
pushed-before (y ∷ xs) x d zero less = refl
pushed-before (y ∷ xs) x d (suc i) less = pushed-before xs x d i (omega (arith, less))

pushed-length : {X : Type 0} (xs : List X) (x : X) (n : ℕ) → length xs ≡ n → length (xs ++ x ∷ []) ≡ n + 1
pushed-length xs x n e = let long = length-append xs (x ∷ []) in omega (arith, long, e)

pub begun-more : (edges : List Edge) (old new : PathTree) (i k : ℕ) → 1 ≤ i → AreBegun edges old i → k < length edges → IsOriginEdge (edge_at edges k) i → new ≡ record { values = old.values ++ (edge_at edges k).weight ∷ []; parents = old.parents ++ k ∷ [] } → AreBegun edges new (i + 1)
begun-more edges old new i k some so known edge is = subst (λ t. AreBegun edges t (i + 1)) (sym is) (record {
  values = pushed-length old.values (edge_at edges k).weight i so.values;
  parents = pushed-length old.parents k i so.parents;
  origin = pushed-before old.values (edge_at edges k).weight (pos 0) 0 (let e = so.values in omega (arith, e, some)) ∙ so.origin;
  begun = begun;
})
  where
    last : IsBegun edges (record { values = old.values ++ (edge_at edges k).weight ∷ []; parents = old.parents ++ k ∷ [] }) i
    last =
        let parent : parent_at (old.parents ++ k ∷ []) i ≡ k = subst (λ n. parent_at (old.parents ++ k ∷ []) n ≡ k) so.parents (pushed-same old.parents k 0) in
        let value : value_at (old.values ++ (edge_at edges k).weight ∷ []) i ≡ (edge_at edges k).weight = subst (λ n. value_at (old.values ++ (edge_at edges k).weight ∷ []) n ≡ (edge_at edges k).weight) so.values (pushed-same old.values (edge_at edges k).weight (pos 0)) in
        record {
          known = subst (λ j. j < length edges) (sym parent) known;
          edge = subst (λ j. IsOriginEdge (edge_at edges j) i) (sym parent) edge;
          value = value ∙ sym (ap (λ j. (edge_at edges j).weight) parent);
        }

    before : (v : ℕ) → v < i → IsBegun edges old v → IsBegun edges (record { values = old.values ++ (edge_at edges k).weight ∷ []; parents = old.parents ++ k ∷ [] }) v
    before v less b =
        let parent : parent_at (old.parents ++ k ∷ []) v ≡ parent_at old.parents v = pushed-before old.parents k 0 v (let e = so.parents in omega (arith, e, less)) in
        let value : value_at (old.values ++ (edge_at edges k).weight ∷ []) v ≡ value_at old.values v = pushed-before old.values (edge_at edges k).weight (pos 0) v (let e = so.values in omega (arith, e, less)) in
        record {
          known = subst (λ j. j < length edges) (sym parent) b.known;
          edge = subst (λ j. IsOriginEdge (edge_at edges j) v) (sym parent) b.edge;
          value = value ∙ b.value ∙ sym (ap (λ j. (edge_at edges j).weight) parent);
        }

    begun : (v : ℕ) → 1 ≤ v → v < i + 1 → IsBegun edges (record { values = old.values ++ (edge_at edges k).weight ∷ []; parents = old.parents ++ k ∷ [] }) v
    begun v one less =
        elim (eqb_tells v i) [
          | inl e ↦ subst (IsBegun edges (record { values = old.values ++ (edge_at edges k).weight ∷ []; parents = old.parents ++ k ∷ [] })) (sym e.1) last
          | inr n ↦ let differ = n.1 in before v (omega (arith, less, differ)) (so.begun v one (omega (arith, less, differ)))
        ]
