-- The closed walk that a raising edge makes with the tree.
use Rattle.std.proofs.Common.{◌≡◌, ◌≢◌, ℕ, zero, suc, ◌+◌, ◌<◌, ◌≤◌, List, [], ◌∷◌, length, ◌⊎◌, inl, inr, refl, sym, ap, ◌∙◌, subst, arith}
use Rattle.std.proofs.lemmas.Int.{ints}
use Rattle.diff_rules.specs.declared.edges.Edge.{Edge}
use Rattle.diff_rules.specs.Differences.{value_at, edge_at, no_edge, LeadsTo, IsSimpleCycle, IsSystem}
use Rattle.diff_system.specs.PathTree.{PathTree, parent_at, above, Rises, IsAbove, IsPathTree}
use Rattle.diff_system.specs.Rounds.{Raises, IsDeep}
use Rattle.list_laws.specs.Among.{IsAmong}
use Rattle.diff_system.specs.Walks.{AreAhead, IsTail}
use Rattle.list_laws.proofs.Distinct.{pairs-differ}
use Rattle.diff_system.proofs.TreeLemmas.{rises-unique, depth-few}

module _ (edges : List Edge) (parents : List ℕ) where
  -- the next variable on the way up to u
  pub above-step : (u v : ℕ) → IsAbove edges parents u v → v ≢ u → (v ≢ 0) × IsAbove edges parents u (above edges parents v)
  above-step u v is n = step is.depth is.rises
    where
      step : (d : ℕ) → Rises edges parents v d u → (v ≢ 0) × IsAbove edges parents u (above edges parents v)
      step zero h = absurd (n h)
      step (suc d) h = (h.0, record { depth = d; rises = h.1 })

  pub above-back : (u v : ℕ) → v ≢ 0 → IsAbove edges parents u (above edges parents v) → IsAbove edges parents u v
  above-back u v n is = record { depth = suc is.depth; rises = (n, is.rises) }

  pub above-here : (u v : ℕ) → v ≡ u → IsAbove edges parents u v
  above-here u v e = record { depth = 0; rises = e }

  -- nothing else is above the origin
  pub none-above : (u v : ℕ) → v ≡ 0 → v ≢ u → IsAbove edges parents u v → ⊥
  none-above u v e n is = none is.depth is.rises
    where
      none : (d : ℕ) → Rises edges parents v d u → ⊥
      none zero h = n h
      none (suc d) h = h.0 e

  ahead-weaker : (x d : ℕ) (ks : List ℕ) → AreAhead edges parents x (suc d) ks → AreAhead edges parents x d ks
  ahead-weaker x d [] h = tt
  ahead-weaker x d (k ∷ ks) h = (weaker h.0, ahead-weaker x d ks h.1)
    where
      weaker : ((edge_at edges k).to ≡ x) ⊎ IsDeep edges parents (suc (suc d)) (edge_at edges k).to → ((edge_at edges k).to ≡ x) ⊎ IsDeep edges parents (suc d) (edge_at edges k).to
      weaker (inl e) = inl e
      weaker (inr g) = inr (record { depth = g.depth; rises = g.rises; deep = let more = g.deep in omega (arith, more) })

  -- an edge that is among those ahead
  among-ahead : (x d : ℕ) (ks : List ℕ) (k : ℕ) → AreAhead edges parents x d ks → IsAmong ks k → ((edge_at edges k).to ≡ x) ⊎ IsDeep edges parents (suc d) (edge_at edges k).to
  among-ahead x d [] k h g = absurd g
  among-ahead x d (j ∷ ks) k h (inl e) = subst (λ i. ((edge_at edges i).to ≡ x) ⊎ IsDeep edges parents (suc d) (edge_at edges i).to) e h.0
  among-ahead x d (j ∷ ks) k h (inr g) = among-ahead x d ks k h.1 g

  -- a parent edge is not among deeper ones
  not-ahead : (x d v : ℕ) (ks : List ℕ) (k : ℕ) → AreAhead edges parents x d ks → v ≢ x → Rises edges parents v d 0 → (edge_at edges k).to ≡ v → IsAmong ks k → ⊥
  not-ahead x d v ks k ahead n rises e g = none (among-ahead x d ks k ahead g)
    where
      none : ((edge_at edges k).to ≡ x) ⊎ IsDeep edges parents (suc d) (edge_at edges k).to → ⊥
      none (inl f) = n (sym e ∙ f)
      none (inr f) =
          let same = rises-unique edges parents f.depth d v (subst (λ w. Rises edges parents w f.depth 0) e f.rises) rises in
          let more = f.deep in
          omega (arith, same, more)

module _ (edges : List Edge) (vars : ℕ) (system : IsSystem edges vars) (tree : PathTree) (is : IsPathTree edges vars tree) where
  pub tail-begin : (k : ℕ) → k < length edges → Raises tree.values (edge_at edges k) → IsTail edges tree (edge_at edges k).to (edge_at edges k).from (k ∷ [])
  tail-begin k known raises =
      let below = (system.ends k no_edge known).0 in
      let root = is.rooted (edge_at edges k).from below in
      let few = depth-few edges vars system tree is.parent root.depth (edge_at edges k).from below root.rises in
      let most = system.few in
      let higher = raises.higher in
      record {
        depth = root.depth;
        rises = root.rises;
        leads = (known, refl, refl);
        positive = omega (arith, ints, higher);
        ahead = (inl refl, tt);
        once = ((λ g. g), tt);
        short = omega (arith, few, most);
      }

  pub tail-more : (x v : ℕ) (ks : List ℕ) → IsTail edges tree x v ks → v < vars → v ≢ 0 → v ≢ x → IsTail edges tree x (above edges tree.parents v) (parent_at tree.parents v ∷ ks)
  tail-more x v ks tail known n m = more tail.depth tail.rises tail.ahead tail.short
    where
      more : (d : ℕ) → Rises edges tree.parents v d 0 → AreAhead edges tree.parents x d ks → length ks + d ≤ 17 → IsTail edges tree x (above edges tree.parents v) (parent_at tree.parents v ∷ ks)
      more zero rises ahead short = absurd (n rises)
      more (suc d) rises ahead short =
          let p = is.parent v known n in
          let bound = p.bound in
          let positive = tail.positive in
          record {
            depth = d;
            rises = rises.1;
            leads = (p.known, refl, subst (λ w. LeadsTo edges w ks x) (sym p.ends) tail.leads);
            positive = omega (arith, ints, bound, positive);
            ahead = (inr (record { depth = suc d; rises = subst (λ w. Rises edges tree.parents w (suc d) 0) (sym p.ends) rises; deep = omega arith }), ahead-weaker edges tree.parents x d ks ahead);
            once = (not-ahead edges tree.parents x (suc d) v ks (parent_at tree.parents v) ahead m rises p.ends, tail.once);
            short = omega (arith, short);
          }

  pub tail-closed : (x v : ℕ) (ks : List ℕ) → IsTail edges tree x v ks → v ≡ x → IsSimpleCycle edges ks
  tail-closed x v ks tail e =
      let same : value_at tree.values v ≡ value_at tree.values x = ap (value_at tree.values) e in
      let positive = tail.positive in
      record {
        cycle = record {
          start = x;
          closed = subst (λ w. LeadsTo edges w ks x) e tail.leads;
          positive = omega (arith, ints, same, positive);
        };
        once = pairs-differ ks tail.once;
      }
