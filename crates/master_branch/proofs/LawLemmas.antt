-- A legal plan under a node lies under exactly one child; the limit of nodes rises with the ships.
use Rattle.std.proofs.Common.{◌≡◌, ◌≢◌, ℕ, zero, suc, ◌+◌, ◌*◌, ◌<◌, ◌≤◌, List, [], ◌∷◌, length, AllPairs, inl, inr, refl, sym, ap, ◌∙◌, subst, arith, slice_index_or}
use Rattle.std.proofs.lemmas.Bool.Decides.{leb_tells}
use Rattle.lock_model.specs.declared.instance.Instance.{Instance}
use Rattle.lock_model.specs.declared.group.Group.{Group}
use Rattle.lock_model.specs.declared.plan.Plan.{Plan}
use Rattle.lock_rules.specs.Plan.{IsLegal}
use Rattle.lock_rules.specs.Node.{Node, line_at, IsNode, root_lines}
use Rattle.lock_rules.specs.Trace.{IsUnder}
use Rattle.lock_rules.specs.Size.{tree_width, node_limit}
use Rattle.list_laws.specs.Among.{IsAmong}
use Rattle.lock_rules.proofs.SplitLemmas.{children-split, under-one}
use Rattle.lock_rules.proofs.ChildLemmas.{children-distinct}
use Rattle.lock_rules.proofs.NodeLemmas.{children-nodes}
use Rattle.master_branch.specs.Node.{IsNodeOf, children, child_lines}
use Rattle.master_branch.specs.Split.{IsUnderOneChild}

-- lines that agree in each chamber are equal
lines-same : (a b : List (List Group)) → length a ≡ length b → ((c : ℕ) → line_at a c ≡ line_at b c) → a ≡ b
lines-same [] [] long same = refl
lines-same [] (y ∷ b) long same = absurd (omega (arith, long))
lines-same (x ∷ a) [] long same = absurd (omega (arith, long))
lines-same (x ∷ a) (y ∷ b) long same = let first : x ≡ y = same 0 in λ i. first i ∷ lines-same a b (omega (arith, long)) (λ c. same (suc c)) i

-- two nodes of one depth over one plan are equal
one-node : (I : Instance) (k : ℕ) (a b : List (List Group)) (P : Plan) → IsNode I k a → IsNode I k b → IsUnder I k a P → IsUnder I k b P → a ≡ b
one-node I k a b P first second over_a over_b =
    lines-same a b (first.four ∙ sym second.four) (λ c. elim (leb_tells (length I.chambers) c) [
      | inl past ↦ first.past c past.1 ∙ sym (second.past c past.1)
      | inr known ↦ under-one I k a b P over_a over_b c known.1
    ])

-- the place of what stands in a list
place-among : {X : Type 0} (xs : List X) (x d : X) → IsAmong xs x → (k : ℕ) × (k < length xs) × (slice_index_or xs k d ≡ x)
place-among [] x d among = absurd among
place-among (y ∷ ys) x d (inl here) = (0, omega arith, here)
place-among (y ∷ ys) x d (inr later) = let rest = place-among ys x d later in (suc rest.0, omega (arith, rest.1), rest.2)

-- equal elements of a list without repetition stand at one place
one-place : {X : Type 0} (xs : List X) (d : X) → AllPairs (λ a b. a ≢ b) xs → (i j : ℕ) → i < length xs → j < length xs → slice_index_or xs i d ≡ slice_index_or xs j d → i ≡ j
one-place xs d differ i j in_i in_j same =
    elim (leb_tells (suc i) j) [
      | inl less ↦ absurd (differ i j d less.1 in_j same)
      | inr rest ↦ elim (leb_tells (suc j) i) [
        | inl more ↦ absurd (differ j i d more.1 in_i (sym same))
        | inr equal ↦ omega (arith, rest.1, equal.1)
      ]
    ]

-- EACH LEGAL PLAN UNDER A NODE LIES UNDER EXACTLY ONE CHILD.
pub under-one-child : (I : Instance) (node : Node) (P : Plan) → IsNodeOf I node → node.depth < length I.ships → IsLegal I P → IsUnder I node.depth node.lines P → IsUnderOneChild I node P
under-one-child I node P good less legal under =
    let k = node.depth in
    let nodes = children-nodes I k node.lines good less in
    let split = children-split I k node.lines P legal under (omega (arith, good.four, I.limits.chamber_count.1)) less in
    let place = place-among (children I node) split.0 root_lines split.1 in
    let over : IsUnder I (suc k) (child_lines I node place.0) P = subst (λ child. IsUnder I (suc k) child P) (sym place.2) split.2 in
    record {
      number = place.0;
      within = place.1;
      under = over;
      only = λ i inside other.
          one-place (children I node) root_lines (children-distinct I k node.lines good less) i place.0 inside place.1
          (one-node I (suc k) (child_lines I node i) (child_lines I node place.0) P (nodes i root_lines inside) (nodes place.0 root_lines place.1) other over);
    }

-- more ships make a greater limit, and what it adds is within it
limit-rises : (m k n : ℕ) → k ≤ n → node_limit k m ≤ node_limit n m
limit-rises m k zero le = let none : k ≡ 0 = omega (arith, le) in omega (arith, ap (λ k. node_limit k m) none)
limit-rises m k (suc n) le = elim (leb_tells k n) [
  | inl less ↦ omega (arith, limit-rises m k n less.1)
  | inr more ↦ let equal : k ≡ suc n = omega (arith, le, more.1) in omega (arith, ap (λ k. node_limit k m) equal)
]

pub limit-step : (m k n : ℕ) → k < n → node_limit k m + tree_width m k * (2 * k + m) ≤ node_limit n m
limit-step m k n less = limit-rises m (suc k) n (omega (arith, less))
