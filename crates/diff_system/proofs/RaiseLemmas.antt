-- What a raise keeps and gains.
use Rattle.std.proofs.Common.{◌≡◌, ◌≢◌, ℕ, zero, suc, ◌<◌, ◌≤◌, ℤ, pos, ◌+ℤ◌, ◌≤ℤ◌, List, length, ◌⊎◌, inl, inr, refl, sym, ap, ◌∙◌, subst, arith}
use Rattle.std.proofs.lemmas.Int.{ints}
use Rattle.std.proofs.lemmas.Bool.Decides.{eqb_tells}
use Rattle.std.proofs.lemmas.List.{get_or-set_same, get_or-set_other, length-set}
use Rattle.diff_rules.specs.declared.edges.Edge.{Edge}
use Rattle.diff_rules.specs.Differences.{value_at, edge_at, no_edge, AreSolution, IsSystem}
use Rattle.diff_system.specs.PathTree.{PathTree, parent_at, above, Rises, IsAbove, IsParent, IsSmall, IsPathTree}
use Rattle.diff_system.specs.Rounds.{Raises, raised_by, IsDeep, IsSettled}
use Rattle.diff_system.proofs.TreeLemmas.{rises-unique, depth-few, value-high}

module _ (edges : List Edge) (vars : ℕ) (system : IsSystem edges vars) (old : PathTree) (is : IsPathTree edges vars old) (k : ℕ) (known : k < length edges) (raises : Raises old.values (edge_at edges k)) (away : IsAbove edges old.parents (edge_at edges k).to (edge_at edges k).from → ⊥) where
  abbrev u : ℕ
  u = (edge_at edges k).from

  abbrev x : ℕ
  x = (edge_at edges k).to

  abbrev new : PathTree
  new = raised_by edges old k

  pub u-known : u < vars
  u-known = (system.ends k no_edge known).0

  x-known : x < vars
  x-known = (system.ends k no_edge known).1

  not-origin : x ≢ 0
  not-origin e = away (subst (λ a. IsAbove edges old.parents a u) (sym e) (is.rooted u u-known))

  apart : u ≢ x
  apart e = away (record { depth = 0; rises = e })

  value-x : value_at new.values x ≡ value_at old.values u +ℤ (edge_at edges k).weight
  value-x = let e = is.values_count in let l = x-known in get_or-set_same old.values x (value_at old.values u +ℤ (edge_at edges k).weight) (pos 0) (omega (arith, e, l))

  value-other : (w : ℕ) → w ≢ x → value_at new.values w ≡ value_at old.values w
  value-other w n = get_or-set_other old.values x w (value_at old.values u +ℤ (edge_at edges k).weight) (pos 0) n

  parent-x : parent_at new.parents x ≡ k
  parent-x = let e = is.parents_count in let l = x-known in get_or-set_same old.parents x k 0 (omega (arith, e, l))

  parent-other : (w : ℕ) → w ≢ x → parent_at new.parents w ≡ parent_at old.parents w
  parent-other w n = get_or-set_other old.parents x w k 0 n

  above-x : above edges new.parents x ≡ u
  above-x = ap (λ j. (edge_at edges j).from) parent-x

  above-other : (w : ℕ) → w ≢ x → above edges new.parents w ≡ above edges old.parents w
  above-other w n = ap (λ j. (edge_at edges j).from) (parent-other w n)

  up : (w : ℕ) → value_at old.values w ≤ℤ value_at new.values w
  up w =
      elim (eqb_tells w x) [
        | inl e ↦
            let a : value_at old.values w ≡ value_at old.values x = ap (value_at old.values) e.1 in
            let b : value_at new.values w ≡ value_at new.values x = ap (value_at new.values) e.1 in
            let c = value-x in
            let higher = raises.higher in
            omega (arith, ints, a, b, c, higher)
        | inr n ↦ let a = value-other w n.1 in omega (arith, ints, a)
      ]

  -- ---- depths

  -- a variable that x isn't above stays where it is
  kept : (d w : ℕ) → Rises edges old.parents w d 0 → (IsAbove edges old.parents x w → ⊥) → Rises edges new.parents w d 0
  kept zero w h n = h
  kept (suc d) w h n = (h.0, subst (λ p. Rises edges new.parents p d 0) (sym (above-other w (λ e. n (record { depth = 0; rises = e })))) (kept d (above edges old.parents w) h.1 (λ a. n (record { depth = suc a.depth; rises = (h.0, a.rises) }))))

  abbrev depth_u : ℕ
  depth_u = (is.rooted u u-known).depth

  rises-x : Rises edges new.parents x (suc depth_u) 0
  rises-x = (not-origin, subst (λ p. Rises edges new.parents p depth_u 0) (sym above-x) (kept depth_u u (is.rooted u u-known).rises away))

  -- a variable keeps its depth, or lies below x
  moved : (d w : ℕ) → Rises edges old.parents w d 0 → (e : ℕ) × Rises edges new.parents w e 0 × ((e ≡ d) ⊎ (suc depth_u ≤ e))
  moved zero w h = (0, h, inl refl)
  moved (suc d) w h =
      elim (eqb_tells w x) [
        | inl e ↦ (suc depth_u, subst (λ p. Rises edges new.parents p (suc depth_u) 0) (sym e.1) rises-x, inr (omega arith))
        | inr n ↦
            let r = moved d (above edges old.parents w) h.1 in
            (suc r.0, (h.0, subst (λ p. Rises edges new.parents p r.0 0) (sym (above-other w n.1)) r.1), deeper r.0 r.2)
      ]
    where
      deeper : (e : ℕ) → (e ≡ d) ⊎ (suc depth_u ≤ e) → (suc e ≡ suc d) ⊎ (suc depth_u ≤ suc e)
      deeper e (inl h) = inl (ap suc h)
      deeper e (inr h) = inr (omega (arith, h))

  -- ---- the new tree

  new-origin : value_at new.values 0 ≡ pos 0
  new-origin = value-other 0 (λ e. not-origin (sym e)) ∙ is.origin

  new-parent-x : IsParent edges new x
  new-parent-x = record {
    known = subst (λ j. j < length edges) (sym parent-x) known;
    ends = ap (λ j. (edge_at edges j).to) parent-x;
    bound =
        let a = value-x in
        let b = value-other u apart in
        let c : value_at new.values (above edges new.parents x) ≡ value_at new.values u = ap (value_at new.values) above-x in
        let d : (edge_at edges (parent_at new.parents x)).weight ≡ (edge_at edges k).weight = ap (λ j. (edge_at edges j).weight) parent-x in
        omega (arith, ints, a, b, c, d);
  }

  new-parent-other : (w : ℕ) → w ≢ x → IsParent edges old w → IsParent edges new w
  new-parent-other w n p = record {
    known = subst (λ j. j < length edges) (sym (parent-other w n)) p.known;
    ends = ap (λ j. (edge_at edges j).to) (parent-other w n) ∙ p.ends;
    bound =
        let a = value-other w n in
        let b = up (above edges old.parents w) in
        let c : value_at new.values (above edges new.parents w) ≡ value_at new.values (above edges old.parents w) = ap (value_at new.values) (above-other w n) in
        let d : (edge_at edges (parent_at new.parents w)).weight ≡ (edge_at edges (parent_at old.parents w)).weight = ap (λ j. (edge_at edges j).weight) (parent-other w n) in
        let bound = p.bound in
        omega (arith, ints, a, b, c, d, bound);
  }

  new-parent : (w : ℕ) → w < vars → w ≢ 0 → IsParent edges new w
  new-parent w less n =
      elim (eqb_tells w x) [
        | inl e ↦ subst (IsParent edges new) (sym e.1) new-parent-x
        | inr m ↦ new-parent-other w m.1 (is.parent w less n)
      ]

  new-rooted : (w : ℕ) → w < vars → IsAbove edges new.parents 0 w
  new-rooted w less = let r = moved (is.rooted w less).depth w (is.rooted w less).rises in record { depth = r.0; rises = r.1 }

  new-small : (w : ℕ) → w < vars → IsSmall new.values w
  new-small w less =
      let root = new-rooted w less in
      let high = value-high edges vars system new new-parent new-origin root.depth w less root.rises in
      let few = depth-few edges vars system new new-parent root.depth w less root.rises in
      let most = system.few in
      let low = (is.small w less).low in
      let here = up w in
      record { low = omega (arith, ints, low, here); high = omega (arith, ints, high, few, most) }

  new-below : (others : List ℤ) → AreSolution edges vars others → (w : ℕ) → w < vars → value_at new.values w ≤ℤ value_at others w
  new-below others solution w less =
      elim (eqb_tells w x) [
        | inl e ↦
            let a : value_at new.values w ≡ value_at new.values x = ap (value_at new.values) e.1 in
            let b : value_at others w ≡ value_at others x = ap (value_at others) e.1 in
            let c = value-x in
            let d = is.below others solution u u-known in
            let far = (solution.obeyed k no_edge known).far in
            omega (arith, ints, a, b, c, d, far)
        | inr n ↦ let a = value-other w n.1 in let d = is.below others solution w less in omega (arith, ints, a, d)
      ]

  pub raised-tree : IsPathTree edges vars new
  raised-tree = record {
    values_count = length-set old.values x (value_at old.values u +ℤ (edge_at edges k).weight) ∙ is.values_count;
    parents_count = length-set old.parents x k ∙ is.parents_count;
    origin = new-origin;
    small = new-small;
    parent = new-parent;
    rooted = new-rooted;
    below = new-below;
  }

  -- ---- rounds

  -- the edge that raises begins deep
  pub begins-deep : (r : ℕ) → IsSettled edges old r k → r ≤ depth_u
  begins-deep r h = elim h.settled [
    | inl obeys ↦ let far = obeys.far in let higher = raises.higher in absurd (omega (arith, ints, far, higher))
    | inr deep ↦ let same = rises-unique edges old.parents deep.depth depth_u u deep.rises (is.rooted u u-known).rises in let more = deep.deep in omega (arith, same, more)
  ]

  -- the edge itself is obeyed now
  pub raised-here : (r : ℕ) → IsSettled edges new r k
  raised-here r = record { settled = inl (record { far = let a = value-x in let b = value-other u apart in omega (arith, ints, a, b) }) }

  deep-x : (r w : ℕ) → r ≤ suc depth_u → w ≡ x → IsDeep edges new.parents r w
  deep-x r w few e = record { depth = suc depth_u; rises = subst (λ p. Rises edges new.parents p (suc depth_u) 0) (sym e) rises-x; deep = few }

  -- the others stay as settled as they were
  pub raised-others : (r j : ℕ) → r ≤ suc depth_u → IsSettled edges old r j → IsSettled edges new r j
  raised-others r j few h = elim h.settled [
    | inl obeys ↦
        elim (eqb_tells (edge_at edges j).from x) [
          | inl e ↦ record { settled = inr (deep-x r (edge_at edges j).from few e.1) }
          | inr n ↦ record { settled = inl (record { far = let a = value-other (edge_at edges j).from n.1 in let b = up (edge_at edges j).to in let far = obeys.far in omega (arith, ints, a, b, far) }) }
        ]
    | inr deep ↦
        let m = moved deep.depth (edge_at edges j).from deep.rises in
        record { settled = inr (record { depth = m.0; rises = m.1; deep = deeper m.0 deep.depth deep.deep m.2 }) }
  ]
    where
      deeper : (e d : ℕ) → r ≤ d → (e ≡ d) ⊎ (suc depth_u ≤ e) → r ≤ e
      deeper e d more (inl same) = omega (arith, more, same)
      deeper e d more (inr below) = omega (arith, few, below)
