-- THE CONCLUSION OF THE SEARCH TREE: the least bound of the nodes with all ships whose groups fit is the cost of a cheapest plan.
use Rattle.std.proofs.Common.{◌≡◌, ◌≢◌, ℕ, zero, suc, ◌+◌, ◌<◌, ◌≤◌, List, [], ◌∷◌, length, All, true, ◌⊎◌, ◌↔◌, inl, inr, refl, sym, ap, ◌∙◌, subst, arith, slice_index_or}
use Rattle.std.specs.List.{AllByRecursion}
use Rattle.std.proofs.lemmas.Bool.Decides.{eqb_tells, leb_tells}
use Rattle.std.proofs.lemmas.List.Elements.{All-nil, All-cons, All-map, All-weaker, recursion_from_All}
use Rattle.lock_model.specs.Fitting.{deck_of, Fits}
use Rattle.lock_model.specs.Placement.{IsLegalPlacement}
use Rattle.lock_model.specs.Cargo.{HasNoClash}
use Rattle.lock_model.specs.declared.instance.Instance.{Instance}
use Rattle.lock_model.specs.declared.group.Group.{Group}
use Rattle.lock_model.specs.declared.placement.Spot.{Spot}
use Rattle.lock_model.specs.declared.plan.Plan.{Plan}
use Rattle.lock_rules.specs.Lines.{group_of, line_of, groups_of}
use Rattle.lock_rules.specs.Plan.{IsLegalLockage, IsLegal, IsCheapest, cost_of}
use Rattle.lock_rules.specs.Arrival.{first_ships}
use Rattle.lock_rules.specs.Children.{children_of}
use Rattle.lock_rules.specs.Node.{line_at, root_lines, IsNode}
use Rattle.lock_rules.specs.Trace.{has_number, trace_of, IsUnder}
use Rattle.lock_rules.specs.Leaf.{plan_of, AllFit}
use Rattle.lock_rules.specs.Search.{LeadsToWhole, IsWholeNode, IsLeastBound, HasWholeNode, HasPlanAtBound, IsCheapestCost, whole_bound}
use Rattle.lock_rules.proofs.LineLemmas.{All-line, line-chamber}
use Rattle.list_laws.specs.Among.{IsAmong}
use Rattle.lock_rules.proofs.TreeLemmas.{contains-among}
use Rattle.lock_rules.proofs.SplitLemmas.{children-split, bound-holds}
use Rattle.lock_rules.proofs.NodeLemmas.{children-nodes, root-node, root-under}
use Rattle.lock_rules.proofs.LeafLemmas.{trace-whole, kept-number, leaf-legal, leaf-under, leaf-cost}

-- where a node leads to is a node with all ships
pub leads-node : (I : Instance) (left k : ℕ) (lines whole : List (List Group)) → IsNode I k lines → k + left ≡ length I.ships → LeadsToWhole I left k lines whole → IsNode I (length I.ships) whole
leads-node I zero k lines whole node all leads = let same : k ≡ length I.ships = omega (arith, all) in subst (IsNode I (length I.ships)) leads (subst (λ k. IsNode I k lines) same node)
leads-node I (suc left) k lines whole node all (child, held, leads) =
    let own = subst (IsNode I (suc k)) held.2 (children-nodes I k lines node (omega (arith, all)) held.0 child held.1) in
    leads-node I left (suc k) child whole own (omega (arith, all)) leads

-- what holds of each element of a list holds of all
All-among : {X : Type 0} (Q : X → Type 0) (xs : List X) → ((x : X) → IsAmong xs x → Q x) → All Q xs
All-among Q [] each = All-nil Q
All-among Q (x ∷ xs) each = All-cons Q x xs (each x (inl refl)) (All-among Q xs (λ y h. each y (inr h)))

-- ---- from plans to nodes

-- a node with all ships below these lines that a plan lies under
pub record HasLeaf (I : Instance) (left k : ℕ) (lines : List (List Group)) (P : Plan) : Type 0 where
  pub node : List (List Group)
  pub leads : LeadsToWhole I left k lines node
  pub under : IsUnder I (length I.ships) node P

module _ (I : Instance) (P : Plan) (legal : IsLegal I P) where
  pub plan-leaf : (left k : ℕ) (lines : List (List Group)) → IsNode I k lines → k + left ≡ length I.ships → IsUnder I k lines P → HasLeaf I left k lines P
  plan-leaf zero k lines node all under =
      let same : k ≡ length I.ships = omega (arith, all) in
      record { node = lines; leads = refl; under = subst (λ k. IsUnder I k lines P) same under }
  plan-leaf (suc left) k lines node all under =
      let less : k < length I.ships = omega (arith, all) in
      let split = children-split I k lines P legal under (omega (arith, node.four, I.limits.chamber_count.1)) less in
      let held = contains-among (children_of I k lines) split.0 split.1 in
      let own = subst (IsNode I (suc k)) held.2 (children-nodes I k lines node less held.0 split.0 held.1) in
      let leaf = plan-leaf left (suc k) split.0 own (omega (arith, all)) split.2 in
      record { node = leaf.node; leads = (split.0, held, leaf.leads); under = leaf.under }

  -- with all ships kept, a line of the plan is its own trace
  pub line-trace : (c : ℕ) → trace_of (first_ships I (length I.ships)) (groups_of P c) ≡ groups_of P c
  line-trace c =
      let kept = has_number (first_ships I (length I.ships)) in
      let own = All-line (IsLegalLockage I) P c legal.lockage in
      trace-whole kept (groups_of P c)
      (All-map (λ g. 1 ≤ length g.ships) group_of (line_of P c) (All-weaker (IsLegalLockage I) (λ l. 1 ≤ length l.ships) (λ l h. h.count.0) (line_of P c) own))
      (All-map (λ g. All (λ s. kept s ≡ true) g.ships) group_of (line_of P c)
      (All-weaker (IsLegalLockage I) (λ l. All (λ s. kept s ≡ true) l.ships) (λ l h. All-weaker (λ s. s < length I.ships) (λ s. kept s ≡ true) (kept-number I) l.ships h.known) (line_of P c) own))

  -- the groups of a legal plan fit their chambers
  line-fits : (c : ℕ) → All (λ g. Fits (deck_of I c g.ships)) (groups_of P c)
  line-fits c =
      let ls = line_of P c in
      let own = All-line (IsLegalLockage I) P c legal.lockage in
      All-map (λ g. Fits (deck_of I c g.ships)) group_of ls (λ k d here.
      let l = slice_index_or ls k d in
      let lockage = own k d here in
      subst (λ b. Fits (deck_of I b l.ships)) (line-chamber P c k d here) (record { clear = lockage.clear; placed = (l.spots, lockage.placed) }))

  -- A LEGAL PLAN LIES UNDER A WHOLE NODE whose groups fit, and costs at least its bound.
  pub plan-whole : HasWholeNode I P
  plan-whole =
      let n = length I.ships in
      let leaf = plan-leaf n 0 root_lines (root-node I) (omega arith) (root-under I P) in
      record {
        node = leaf.node;
        whole = record {
          leads = leaf.leads;
          fit = record { each = λ c known. subst (All (λ g. Fits (deck_of I c g.ships))) (sym (line-trace c) ∙ leaf.under.trace c known) (line-fits c) };
        };
        under = leaf.under;
        low = bound-holds I n leaf.node P legal leaf.under;
      }

-- ---- from nodes to plans

same_ships : (xs ys : List ℕ) → (xs ≡ ys) ⊎ (xs ≢ ys)
same_ships [] [] = inl refl
same_ships [] (y ∷ ys) = inr (λ e. absurd (omega (arith, ap length e)))
same_ships (x ∷ xs) [] = inr (λ e. absurd (omega (arith, ap length e)))
same_ships (x ∷ xs) (y ∷ ys) =
    elim (eqb_tells x y) [
      | inl first ↦ elim (same_ships xs ys) [ inl rest ↦ inl (λ i. first.1 i ∷ rest i) | inr differ ↦ inr (λ e. differ (ap tail e)) ]
      | inr differ ↦ inr (λ e. differ.1 (ap head e))
    ]
  where
    head : List ℕ → ℕ
    head [] = 0
    head (x ∷ xs) = x

    tail : List ℕ → List ℕ
    tail [] = []
    tail (x ∷ xs) = xs

abbrev chosen : {A B X : Type 0} → A ⊎ B → X → X → X
chosen (inl a) x y = x
chosen (inr b) x y = y

module _ (I : Instance) (c : ℕ) where
  -- the spots of the group of a line that has these ships
  abbrev spots_in : (gs : List Group) → AllByRecursion (λ g. Fits (deck_of I c g.ships)) gs → Group → List Spot
  spots_in [] fits g = []
  spots_in (h ∷ hs) fits g = chosen (same_ships h.ships g.ships) fits.0.placed.0 (spots_in hs fits.1 g)

  spots_in-legal : (gs : List Group) (fits : AllByRecursion (λ g. Fits (deck_of I c g.ships)) gs) (g : Group) → IsAmong gs g → IsLegalPlacement (deck_of I c g.ships) (spots_in gs fits g)
  spots_in-legal [] fits g among = absurd among
  spots_in-legal (h ∷ hs) fits g among =
      elim (same_ships h.ships g.ships) as (λ t. IsLegalPlacement (deck_of I c g.ships) (chosen t fits.0.placed.0 (spots_in hs fits.1 g))) [
        | inl same ↦ subst (λ ss. IsLegalPlacement (deck_of I c ss) fits.0.placed.0) same fits.0.placed.1
        | inr differ ↦ spots_in-legal hs fits.1 g (later differ among)
      ]
    where
      later : h.ships ≢ g.ships → IsAmong (h ∷ hs) g → IsAmong hs g
      later differ (inl e) = absurd (differ (ap (λ g. g.ships) e))
      later differ (inr there) = there

module _ (I : Instance) (lines : List (List Group)) (whole : IsWholeNode I lines) where
  whole-node : IsNode I (length I.ships) lines
  whole-node = leads-node I (length I.ships) 0 root_lines lines (root-node I) (omega arith) whole.leads

  line_fits : (c : ℕ) → AllByRecursion (λ g. Fits (deck_of I c g.ships)) (line_at lines c)
  line_fits c =
      recursion_from_All (λ g. Fits (deck_of I c g.ships)) (line_at lines c)
      (elim (leb_tells (length I.chambers) c) [
        | inl past ↦ subst (All (λ g. Fits (deck_of I c g.ships))) (sym (whole-node.past c past.1)) (All-nil (λ g. Fits (deck_of I c g.ships)))
        | inr known ↦ whole.fit.each c known.1
      ])

  -- the spots at which each group lies
  abbrev spots_on : ℕ → Group → List Spot
  spots_on c = spots_in I c (line_at lines c) (line_fits c)

  all-fit : AllFit I spots_on lines
  all-fit = record {
    placed = λ c known. All-among (λ g. IsLegalPlacement (deck_of I c g.ships) (spots_on c g)) (line_at lines c) (spots_in-legal I c (line_at lines c) (line_fits c));
    clear = λ c known. All-weaker (λ g. Fits (deck_of I c g.ships)) (λ g. HasNoClash (deck_of I c g.ships)) (λ g h. h.clear) (line_at lines c) (whole.fit.each c known);
  }

  -- A WHOLE NODE whose groups fit HAS A LEGAL PLAN that costs its bound.
  pub whole-plan : HasPlanAtBound I lines
  whole-plan = record {
    plan = plan_of I spots_on lines;
    legal = leaf-legal I spots_on lines whole-node all-fit;
    under = leaf-under I spots_on lines whole-node all-fit;
    cost = leaf-cost I spots_on lines whole-node all-fit;
  }

-- ---- the conclusion

module _ (I : Instance) where
  least-cheapest : (b : ℕ) → IsLeastBound I b → IsCheapestCost I b
  least-cheapest b least =
      let own = whole-plan I least.node least.whole in
      record {
        plan = own.plan;
        cheapest = record {
          legal = own.legal;
          least = λ Q legal. let above = plan-whole I Q legal in omega (arith, own.cost, least.own, least.least above.node above.whole, above.low);
        };
        cost = own.cost ∙ least.own;
      }

  pub cheapest-least : (P : Plan) → IsCheapest I P → IsLeastBound I (cost_of I P)
  cheapest-least P cheapest =
      let above = plan-whole I P cheapest.legal in
      let least : (lines : List (List Group)) → IsWholeNode I lines → cost_of I P ≤ whole_bound I lines = λ lines whole. (let other = whole-plan I lines whole in omega (arith, other.cost, cheapest.least other.plan other.legal)) in
      record {
        node = above.node;
        whole = above.whole;
        own = omega (arith, above.low, least above.node above.whole);
        least = least;
      }

  -- THE LEAST BOUND IS THE COST OF A CHEAPEST PLAN.
  pub least-bound : (b : ℕ) → IsLeastBound I b ↔ IsCheapestCost I b
  least-bound b = (least-cheapest b, λ h. subst (IsLeastBound I) h.cost (cheapest-least h.plan h.cheapest))

  pub cheapest-plan : (P : Plan) → IsLegal I P → IsCheapest I P ↔ IsLeastBound I (cost_of I P)
  cheapest-plan P legal = (
    cheapest-least P,
    λ least. record {
      legal = legal;
      least = λ Q other. let own = least-cheapest (cost_of I P) least in omega (arith, own.cost, own.cheapest.least Q other);
    },
  )
