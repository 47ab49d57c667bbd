-- The ships that a slot's node lacks.
use Rattle.std.proofs.Common.{◌≡◌, ℕ, zero, suc, ◌<◌, List, [], ◌∷◌, length, refl, arith, sym, ap, ◌∙◌, subst, Bool, true, false, ◌||◌, nat_eq, eq-eqb, drop, slice_index_or, true≢false}
use Rattle.lock_model.specs.declared.instance.Instance.{Instance}
use Rattle.lock_model.specs.declared.group.Group.{Group}
use Rattle.lock_rules.specs.Arrival.{order_of, missing_ships}
use Rattle.lock_rules.specs.Node.{Node, IsNode}
use Rattle.lock_rules.specs.Trace.{has_number}
use Rattle.book_rules.specs.Book.{Book, slot_at}
use Rattle.book_rules.specs.Step.{lacks_ship, probe_at}
use Rattle.book_rules.proofs.TestLemmas.{has_number-decides}
use Rattle.flow_bounds.specs.Missing.{IsMissing}
use Rattle.flow_bounds.proofs.ProbeLemmas.{among-missing, other-held}
use Rattle.lock_rules.specs.Bound.{probe_of}
use Rattle.master_branch.specs.Node.{IsNodeOf}
use Rattle.std.specs.List.{list_any}
use Rattle.lock_rules.proofs.SplitLemmas.{length-order}
use Rattle.book_core.specs.Hands.{IsNextShip}

contains-at : (xs : List ℕ) (i s : ℕ) → i < length xs → slice_index_or xs i 0 ≡ s → slice_index_or xs i s ≡ s
contains-at [] i s known is = absurd (omega (arith, known))
contains-at (x ∷ xs) zero s known is = is
contains-at (x ∷ xs) (suc i) s known is = contains-at xs i s (omega (arith, known)) is

at-zero : (xs : List ℕ) (i s : ℕ) → i < length xs → slice_index_or xs i s ≡ s → slice_index_or xs i 0 ≡ s
at-zero [] i s known is = absurd (omega (arith, known))
at-zero (x ∷ xs) zero s known is = is
at-zero (x ∷ xs) (suc i) s known is = at-zero xs i s (omega (arith, known)) is

module _ (I : Instance) (k : ℕ) (lines : List (List Group)) (node : IsNode I k lines) (s : ℕ) where
  by_value : (t : Bool) → has_number (missing_ships I k) s ≡ t → IsMissing I lines s → t ≡ true
  by_value true e missing = refl
  by_value false e missing =
      absurd (other-held I k lines node s (λ i known is. true≢false (sym ((has_number-decides (missing_ships I k) s).1 (i, known, contains-at (missing_ships I k) i s known is)) ∙ e)) missing)

  pub missing-true : IsMissing I lines s → has_number (missing_ships I k) s ≡ true
  missing-true missing = by_value (has_number (missing_ships I k) s) refl missing

  by_other : (t : Bool) → has_number (missing_ships I k) s ≡ t → (IsMissing I lines s → ⊥) → t ≡ false
  by_other false e other = refl
  by_other true e other =
      let found = (has_number-decides (missing_ships I k) s).0 e in
      absurd (other (among-missing I k lines node found.0 s found.1 (at-zero (missing_ships I k) found.0 s found.1 found.2)))

  pub missing-false : (IsMissing I lines s → ⊥) → has_number (missing_ships I k) s ≡ false
  missing-false other = by_other (has_number (missing_ships I k) s) refl other

-- the ship that a node lacks first is missing
next-number : (xs : List ℕ) (k : ℕ) → k < length xs → has_number (drop k xs) (slice_index_or xs k 0) ≡ true
next-number [] k known = absurd (omega (arith, known))
next-number (x ∷ xs) zero known = ap (λ t. t || list_any (λ y. nat_eq y x) xs) (eq-eqb x x refl)
next-number (x ∷ xs) (suc k) known = next-number xs k (omega (arith, known))

pub next-true : (b : Book) (id s : ℕ) → IsNextShip b id s → lacks_ship b id s ≡ true
next-true b id s next =
    let I = b.case.instance in
    let k = (slot_at b id).node.depth in
    ap (has_number (missing_ships I k)) next.next ∙ next-number (order_of I) k (omega (arith, next.lacks, length-order I))

-- of a slot's node
module _ (b : Book) (id : ℕ) (I : Instance) (I_is : I ≡ b.case.instance) (node : Node) (same : node ≡ (slot_at b id).node) (good : IsNodeOf I node) (s : ℕ) where
  by_node : (P : Bool → Type 0) → P (has_number (missing_ships I node.depth) s) → P (lacks_ship b id s)
  by_node P h = subst (λ (n : Node). P (has_number (missing_ships b.case.instance n.depth) s)) same (subst (λ J. P (has_number (missing_ships J node.depth) s)) I_is h)

  pub is-missing : IsMissing I node.lines s → lacks_ship b id s ≡ true
  is-missing missing = by_node (λ t. t ≡ true) (missing-true I node.depth node.lines good s missing)

  pub not-missing : (IsMissing I node.lines s → ⊥) → lacks_ship b id s ≡ false
  not-missing other = by_node (λ t. t ≡ false) (missing-false I node.depth node.lines good s other)

  pub probe-is : probe_of I node.depth node.lines s ≡ probe_at b id s
  probe-is = ap (λ J. probe_of J node.depth node.lines s) I_is ∙ ap (λ (n : Node). probe_of b.case.instance n.depth n.lines s) same
