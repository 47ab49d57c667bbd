-- Rounds over the edges.
use Rattle.std.proofs.Common.{◌≡◌, ℕ, zero, suc, ◌+◌, ◌<◌, ◌≤◌, Bool, true, false, List, length, ◌⊎◌, inl, inr, refl, sym, subst, arith, Ok}
use Rattle.std.proofs.lemmas.Bool.Decides.{eqb_tells}
use Rattle.diff_rules.specs.declared.edges.Edge.{Edge}
use Rattle.diff_rules.specs.Differences.{edge_at, no_edge, Obeys, IsSystem}
use Rattle.diff_system.specs.PathTree.{PathTree, IsPathTree, AreLongest}
use Rattle.diff_system.specs.Rounds.{raised_by, IsRaised, IsSettled, IsReady, IsPartly, IsUnderway, IsRelaxed}
use Rattle.diff_system.proofs.TreeLemmas.{depth-few, all-obeyed}
use Rattle.diff_system.proofs.RaiseLemmas.{raised-tree, begins-deep, raised-here, raised-others}

before_or_from : (first k : ℕ) → (k < first) ⊎ (first ≤ k)
before_or_from zero k = inr (omega arith)
before_or_from (suc first) zero = inl (omega arith)
before_or_from (suc first) (suc k) = elim (before_or_from first k) [ inl h ↦ inl (omega (arith, h)) | inr h ↦ inr (omega (arith, h)) ]

module _ (edges : List Edge) (vars : ℕ) (system : IsSystem edges vars) where
  -- edge n asks for nothing
  pub underway-still : (old tree : PathTree) (first n : ℕ) (raised : Bool) → IsUnderway edges vars old tree first n raised → Obeys tree.values (edge_at edges n) → IsUnderway edges vars old tree first (n + 1) raised
  underway-still old tree first n raised so obeys = record {
    is_tree = so.is_tree;
    still = λ r. ((so.still r).0, more (so.still r).0 (so.still r).1);
    partly = λ r ready. record {
      done = done r (so.partly r ready).done;
      rest = λ k above less. (so.partly r ready).rest k (omega (arith, above)) less;
    };
  }
    where
      more : tree ≡ old → ((k : ℕ) → first ≤ k → k < n → Obeys old.values (edge_at edges k)) → (k : ℕ) → first ≤ k → k < n + 1 → Obeys old.values (edge_at edges k)
      more e before k above less =
          elim (eqb_tells k n) [
            | inl y ↦ subst (λ j. Obeys old.values (edge_at edges j)) (sym y.1) (subst (λ t. Obeys t.values (edge_at edges n)) e obeys)
            | inr d ↦ before k above (let differ = d.1 in omega (arith, less, differ))
          ]

      done : (r : ℕ) → ((k : ℕ) → k < n → IsSettled edges tree (suc r) k) → (k : ℕ) → k < n + 1 → IsSettled edges tree (suc r) k
      done r before k less =
          elim (eqb_tells k n) [
            | inl y ↦ subst (IsSettled edges tree (suc r)) (sym y.1) (record { settled = inl obeys })
            | inr d ↦ before k (let differ = d.1 in omega (arith, less, differ))
          ]

  -- edge n raises its end
  pub underway-raised : (old tree new : PathTree) (first n : ℕ) (raised : Bool) → n < length edges → IsUnderway edges vars old tree first n raised → IsRaised edges tree new n → IsUnderway edges vars old new first (n + 1) true
  underway-raised old tree new first n raised known so raise = subst (λ t. IsUnderway edges vars old t first (n + 1) true) (sym raise.is) (record {
    is_tree = raised-tree edges vars system tree so.is_tree n known raise.raises raise.away;
    still = λ r. absurd (differ r);
    partly = λ r ready. partly r (so.partly r ready);
  })
    where
      differ : true ≡ false → ⊥
      differ r = cc

      partly : (r : ℕ) → IsPartly edges tree n r → IsPartly edges (raised_by edges tree n) (n + 1) r
      partly r before =
          let deep = begins-deep edges vars system tree so.is_tree n known raise.raises raise.away r (before.rest n (omega arith) known) in
          record {
            done = done;
            rest = λ k above less. raised-others edges vars system tree so.is_tree n known raise.raises raise.away r k (omega (arith, deep)) (before.rest k (omega (arith, above)) less);
          }
        where
          done : (k : ℕ) → k < n + 1 → IsSettled edges (raised_by edges tree n) (suc r) k
          done k less =
              elim (eqb_tells k n) [
                | inl y ↦ subst (IsSettled edges (raised_by edges tree n) (suc r)) (sym y.1) (raised-here edges vars system tree so.is_tree n known raise.raises raise.away (suc r))
                | inr d ↦
                    let deep = begins-deep edges vars system tree so.is_tree n known raise.raises raise.away r (before.rest n (omega arith) known) in
                    raised-others edges vars system tree so.is_tree n known raise.raises raise.away (suc r) k (omega (arith, deep)) (before.done k (let differ = d.1 in omega (arith, less, differ)))
              ]

  -- ---- from round to round

  pub ready-begin : (tree : PathTree) → IsPathTree edges vars tree → (first : ℕ) → ((k : ℕ) → k < first → Obeys tree.values (edge_at edges k)) → IsReady edges tree first 0
  ready-begin tree is first obeyed = record {
    obeyed = obeyed;
    rest = λ k above less. let root = is.rooted (edge_at edges k).from (system.ends k no_edge less).0 in record { settled = inr (record { depth = root.depth; rises = root.rises; deep = omega arith }) };
  }

  pub ready-more : (old new : PathTree) (first r : ℕ) (raised : Bool) → IsReady edges old first r → IsUnderway edges vars old new first (length edges) raised → IsReady edges new 0 (r + 1)
  ready-more old new first r raised ready so = record {
    obeyed = λ k less. absurd (omega (arith, less));
    rest = λ k above less. subst (λ q. IsSettled edges new q k) (suc_is r) ((so.partly r ready).done k less);
  }
    where
      suc_is : (n : ℕ) → suc n ≡ n + 1
      suc_is n = omega arith

  -- a round that raises nothing
  pub still-longest : (old new : PathTree) (first r : ℕ) → IsReady edges old first r → IsUnderway edges vars old new first (length edges) false → AreLongest edges vars new
  still-longest old new first r ready so = all-obeyed edges vars new so.is_tree each
    where
      before : (k : ℕ) → k < length edges → (k < first) ⊎ (first ≤ k) → Obeys old.values (edge_at edges k)
      before k less (inl h) = ready.obeyed k h
      before k less (inr h) = (so.still refl).1 k h less

      each : (k : ℕ) → k < length edges → Obeys new.values (edge_at edges k)
      each k less = subst (λ t. Obeys t.values (edge_at edges k)) (sym (so.still refl).0) (before k less (before_or_from first k))

  -- after as many rounds as there are variables
  pub last-longest : (tree : PathTree) → IsPathTree edges vars tree → (first r : ℕ) → vars ≤ r → IsReady edges tree first r → AreLongest edges vars tree
  last-longest tree is first r many ready = all-obeyed edges vars tree is each
    where
      shallow : (k : ℕ) → k < length edges → IsSettled edges tree r k → Obeys tree.values (edge_at edges k)
      shallow k less h = elim h.settled [
        | inl obeys ↦ obeys
        | inr deep ↦
            let few = depth-few edges vars system tree is.parent deep.depth (edge_at edges k).from (system.ends k no_edge less).0 deep.rises in
            let more = deep.deep in
            absurd (omega (arith, few, more, many))
      ]

      each : (k : ℕ) → k < length edges → Obeys tree.values (edge_at edges k)
      each k less = elim (before_or_from first k) [ inl h ↦ ready.obeyed k h | inr h ↦ shallow k less (ready.rest k h less) ]

  -- what a look at edge n gives
  pub underway-relaxed : (old tree new : PathTree) (first n : ℕ) (raised now : Bool) → n < length edges → IsUnderway edges vars old tree first n raised → IsRelaxed edges tree new n (Ok now) → (more : Bool) → (now ≡ true → more ≡ true) → (now ≡ false → more ≡ raised) → IsUnderway edges vars old new first (n + 1) more
  underway-relaxed old tree new first n raised true known so relaxed more rose stayed = subst (IsUnderway edges vars old new first (n + 1)) (sym (rose refl)) (underway-raised old tree new first n raised known so relaxed)
  underway-relaxed old tree new first n raised false known so relaxed more rose stayed = subst (IsUnderway edges vars old new first (n + 1)) (sym (stayed refl)) (subst (λ t. IsUnderway edges vars old t first (n + 1) raised) (sym relaxed.0) (underway-still old tree first n raised so relaxed.1))
