-- What a node's ships take once one more ship has entered one of its lines.
use Rattle.std.proofs.Common.{◌≡◌, ◌≢◌, ℕ, zero, suc, ◌+◌, ◌-◌, ◌<◌, ◌≤◌, List, [], ◌∷◌, ◌++◌, length, All, sum_by, map, filter, take, drop, not, nat_eq, cond, refl, arith, ap, subst, ◌∙◌, sym, inl, inr, slice_index_or, slice_set, get_or-set_same, get_or-set_other, ne_eqb}
use Rattle.std.specs.List.{insert}
use Rattle.std.proofs.lemmas.Bool.Decides.{eqb_tells, leb_tells}
use Rattle.std.proofs.lemmas.List.{take-append-drop, take_rest, take_more, map_push}
use Rattle.std.proofs.lemmas.List.Sums.{sum_by-cons}
use Rattle.lock_model.specs.declared.instance.Instance.{Instance}
use Rattle.lock_model.specs.declared.group.Group.{Group}
use Rattle.lock_rules.specs.Plan.{times_in}
use Rattle.lock_rules.specs.Arrival.{numbers_from, order_of, first_ships, missing_ships, next_ship}
use Rattle.lock_rules.specs.Node.{IsNode, line_at, times_held}
use Rattle.lock_rules.specs.Bound.{line_flow, node_flow}
use Rattle.lock_rules.proofs.CountLemmas.{times_in-append, times_in-order}
use Rattle.lock_rules.proofs.TreeLemmas.{times_in-hit, times_in-miss}
use Rattle.lock_rules.proofs.SplitLemmas.{length-order, order-parts, next-missing, times_in-at, missing-known}
use Rattle.flow_bounds.specs.Missing.{IsMissing}
use Rattle.flow_bounds.specs.declared.walk.Walk.{Walk}
use Rattle.master_branch.specs.declared.step.Step.{Step}
use Rattle.master_branch.specs.declared.step.Step.TheVariants.{Join, Open}
use Rattle.master_branch.specs.Steps.{steps_by, IsStep}
use Rattle.master_branch.proofs.StepLemmas.{steps-each}
use Rattle.flow_bounds.specs.Walk.{serve, serve_all, walk_at, AreWalks, chamber_of}
use Rattle.flow_bounds.proofs.WalkLemmas.{walk-set, walk-insert}

-- the walk over a line with a group in the place of another, or with one more
pub join-flow : (I : Instance) (c : ℕ) (line : List Group) (ws : List Walk) → AreWalks I c line ws → (p : ℕ) → p < length line → (g : Group) (w : Walk) (n : ℕ)
    → w ≡ serve I c (walk_at ws p) g → n ≡ (serve_all I c w (drop (p + 1) line)).flow → n ≡ line_flow I c (slice_set line p g)
join-flow I c line ws walks p less g w n served ends =
    ends
    ∙ ap (λ w. (serve_all I c w (drop (p + 1) line)).flow) (served ∙ ap (λ w. serve I c w g) (walks.each p (omega arith)))
    ∙ walk-set I c line p g less

pub open-flow : (I : Instance) (c : ℕ) (line : List Group) (ws : List Walk) → AreWalks I c line ws → (p : ℕ) → p ≤ length line → (g : Group) (w : Walk) (n : ℕ)
    → w ≡ serve I c (walk_at ws p) g → n ≡ (serve_all I c w (drop p line)).flow → n ≡ line_flow I c (insert line p g)
open-flow I c line ws walks p within g w n served ends =
    ends
    ∙ ap (λ w. (serve_all I c w (drop p line)).flow) (served ∙ ap (λ w. serve I c w g) (walks.each p within))
    ∙ walk-insert I c line p g

sum-same : (f g : ℕ → ℕ) (low n c : ℕ) → c < low → ((d : ℕ) → d ≢ c → f d ≡ g d) → sum_by f (numbers_from low n) ≡ sum_by g (numbers_from low n)
sum-same f g low zero c past same = refl
sum-same f g low (suc n) c past same =
    omega (arith, sum_by-cons f low (numbers_from (suc low) n), sum_by-cons g low (numbers_from (suc low) n), same low (λ e. omega (arith, e)), sum-same f g (suc low) n c (omega arith) same)

-- two sums that differ at c alone
sum-but-one : (f g : ℕ → ℕ) (low n c : ℕ) → low ≤ c → c < low + n → ((d : ℕ) → d ≢ c → f d ≡ g d) → sum_by f (numbers_from low n) + g c ≡ sum_by g (numbers_from low n) + f c
sum-but-one f g low zero c from to same = absurd (omega arith)
sum-but-one f g low (suc n) c from to same =
    elim (eqb_tells low c) [
      | inl here ↦ omega (
        arith,
        sum_by-cons f low (numbers_from (suc low) n),
        sum_by-cons g low (numbers_from (suc low) n),
        ap f here.1,
        ap g here.1,
        sum-same f g (suc low) n c (omega (arith, here.1)) same,
      )
      | inr other ↦ omega (
        arith,
        sum_by-cons f low (numbers_from (suc low) n),
        sum_by-cons g low (numbers_from (suc low) n),
        same low other.1,
        sum-but-one f g (suc low) n c (after low c from other.1) (omega arith) same,
      )
    ]
  where
    after : (low c : ℕ) → low ≤ c → (low ≡ c → ⊥) → suc low ≤ c
    after low c from other = omega (arith, other)

-- another line in chamber c changes the node's flow times as it changes the line's
pub flow-set : (I : Instance) (lines : List (List Group)) (c : ℕ) (line : List Group) → c < length I.chambers → c < length lines
    → node_flow I (slice_set lines c line) + line_flow I c (line_at lines c) ≡ node_flow I lines + line_flow I c line
flow-set I lines c line known room =
    let own : line_at (slice_set lines c line) c ≡ line = get_or-set_same lines c line [] room in
    omega (
      arith,
      sum-but-one (λ d. line_flow I d (line_at (slice_set lines c line) d)) (λ d. line_flow I d (line_at lines d)) 0 (length I.chambers) c (omega arith) (omega arith)
          (λ d other. ap (line_flow I d) (get_or-set_other lines c d line [] other)),
      ap (line_flow I c) own,
    )

-- a line's flow times are a part of the node's
pub flow-part : (I : Instance) (lines : List (List Group)) (c : ℕ) → c < length I.chambers → line_flow I c (line_at lines c) ≤ node_flow I lines
flow-part I lines c known = part (λ d. line_flow I d (line_at lines d)) 0 (length I.chambers) c (omega arith) (omega arith)
  where
    part : (f : ℕ → ℕ) (low n c : ℕ) → low ≤ c → c < low + n → f c ≤ sum_by f (numbers_from low n)
    part f low zero c from to = absurd (omega arith)
    part f low (suc n) c from to =
        elim (leb_tells (suc low) c) [
          | inl later ↦ omega (arith, sum_by-cons f low (numbers_from (suc low) n), part f (suc low) n c later.1 (omega arith))
          | inr here ↦
              let same : low ≡ c = omega (arith, here.1) in
              omega (arith, sum_by-cons f low (numbers_from (suc low) n), ap f same)
        ]

-- a ship that a node doesn't hold is missing, once
pub missing-once : (I : Instance) (k : ℕ) (lines : List (List Group)) → IsNode I k lines → (s : ℕ) → s < length I.ships → times_held s lines ≡ 0 → times_in (missing_ships I k) s ≡ 1
missing-once I k lines node s known absent =
    let whole : times_in (order_of I) s ≡ times_in (first_ships I k) s + times_in (missing_ships I k) s = ap (λ xs. times_in xs s) (sym (take-append-drop k (order_of I))) ∙ times_in-append (first_ships I k) (missing_ships I k) s in
    omega (arith, whole, times_in-order I s known, node.held s)

times_in-drop : (xs : List ℕ) (k s : ℕ) → 1 ≤ times_in (drop k xs) s → k < length xs
times_in-drop [] zero s some = absurd (omega arith)
times_in-drop [] (suc k) s some = absurd (omega arith)
times_in-drop (x ∷ xs) zero s some = omega arith
times_in-drop (x ∷ xs) (suc k) s some = omega (arith, times_in-drop xs k s some)

-- so the node lacks a ship
pub missing-lacks : (I : Instance) (k s : ℕ) → times_in (missing_ships I k) s ≡ 1 → k < length I.ships
missing-lacks I k s once = omega (arith, times_in-drop (order_of I) k s (omega arith), length-order I)

others-absent : (s : ℕ) (xs : List ℕ) → times_in xs s ≡ 0 → filter (λ t. not (nat_eq t s)) xs ≡ xs
others-absent s [] none = refl
others-absent s (x ∷ xs) none =
    elim (eqb_tells x s) [
      | inl same ↦ absurd (omega (arith, times_in-hit s x xs same.0))
      | inr other ↦
          ap (λ b. cond (not b) (x ∷ filter (λ t. not (nat_eq t s)) xs) (filter (λ t. not (nat_eq t s)) xs)) other.0
          ∙ ap (λ ys. x ∷ ys) (others-absent s xs (omega (arith, times_in-miss s x xs other.0)))
    ]

-- a sum over numbers among which s stands once is that of the others and its own
pub others-sum : (f : ℕ → ℕ) (s : ℕ) (xs : List ℕ) → times_in xs s ≡ 1 → sum_by f xs ≡ f s + sum_by f (filter (λ t. not (nat_eq t s)) xs)
others-sum f s [] once = absurd (omega arith)
others-sum f s (x ∷ xs) once =
    elim (eqb_tells x s) [
      | inl same ↦ omega (
        arith,
        sum_by-cons f x xs,
        ap f same.1,
        ap (λ b. sum_by f (cond (not b) (x ∷ filter (λ t. not (nat_eq t s)) xs) (filter (λ t. not (nat_eq t s)) xs))) same.0,
        ap (sum_by f) (others-absent s xs (omega (arith, times_in-hit s x xs same.0))),
      )
      | inr other ↦ omega (
        arith,
        sum_by-cons f x xs,
        sum_by-cons f x (filter (λ t. not (nat_eq t s)) xs),
        ap (λ b. sum_by f (cond (not b) (x ∷ filter (λ t. not (nat_eq t s)) xs) (filter (λ t. not (nat_eq t s)) xs))) other.0,
        others-sum f s xs (omega (arith, times_in-miss s x xs other.0)),
      )
    ]

-- the next ship is missing
pub next-held : (I : Instance) (k : ℕ) (lines : List (List Group)) → IsNode I k lines → k < length I.ships → times_held (next_ship I k) lines ≡ 0
next-held I k lines node less = omega (arith, node.held (next_ship I k), order-parts I k (next_ship I k), next-missing I k less)

-- one number more
pub map-more : {X : Type 0} (f : X → ℕ) (xs : List X) (i : ℕ) (d : X) (ns : List ℕ) (n : ℕ) → i < length xs → ns ≡ map f (take i xs) → n ≡ f (slice_index_or xs i d) → ns ++ n ∷ [] ≡ map f (take (i + 1) xs)
map-more f xs i d ns n less so_far own =
    (λ j. so_far j ++ own j ∷ [])
    ∙ sym (map_push f (take i xs) (slice_index_or xs i d))
    ∙ ap (map f) (sym (take_more xs i d less))

-- a ship that stands among those that a node of this depth lacks is missing in the node
pub among-missing : (I : Instance) (k : ℕ) (lines : List (List Group)) → IsNode I k lines → (i s : ℕ) → i < length (missing_ships I k) → slice_index_or (missing_ships I k) i 0 ≡ s → IsMissing I lines s
among-missing I k lines node i s less own =
    let some : 1 ≤ times_in (missing_ships I k) s = subst (λ t. 1 ≤ times_in (missing_ships I k) t) own (times_in-at (missing_ships I k) i 0 less) in
    record { known = missing-known I k s some; absent = omega (arith, node.held s, order-parts I k s, some) }

times_in-none : (xs : List ℕ) (s : ℕ) → ((i : ℕ) → i < length xs → slice_index_or xs i 0 ≢ s) → times_in xs s ≡ 0
times_in-none [] s other = refl
times_in-none (x ∷ xs) s other =
    omega (arith, times_in-miss s x xs (ne_eqb x s (other 0 (omega arith))), times_in-none xs s (λ i less. other (suc i) (omega (arith, less))))

-- and another one isn't
pub other-held : (I : Instance) (k : ℕ) (lines : List (List Group)) → IsNode I k lines → (s : ℕ) → ((i : ℕ) → i < length (missing_ships I k) → slice_index_or (missing_ships I k) i 0 ≢ s) → ¬ IsMissing I lines s
other-held I k lines node s other missing = omega (arith, times_in-none (missing_ships I k) s other, missing-once I k lines node s missing.known missing.absent)

-- the part of a list from a number on, as a slice
pub rest-is : (xs ys : List ℕ) (d k : ℕ) → xs ≡ ys → d ≡ k → take (length xs - d) (drop d xs) ≡ drop k ys
rest-is xs ys d k same at = take_rest xs d ∙ (λ i. drop (at i) (same i))

-- the chamber of a step is one of the instance's
pub step_chamber : (I : Instance) (s : ℕ) (lines : List (List Group)) (step : Step) → IsStep I s lines step → chamber_of step < length I.chambers
step_chamber I s lines (Join c p) step = step.0
step_chamber I s lines (Open c p) step = step.0

-- a ship may take each of its listed steps
pub listed-step : (I : Instance) (s : ℕ) (lines : List (List Group)) (steps : List Step) → steps ≡ steps_by I s lines → (i : ℕ) (d : Step) → i < length steps → IsStep I s lines (slice_index_or steps i d)
listed-step I s lines steps listed i d less = subst (All (IsStep I s lines)) (sym listed) (steps-each I s lines) i d less
