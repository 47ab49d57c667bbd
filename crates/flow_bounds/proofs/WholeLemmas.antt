-- The bound of a node that holds all ships is the cost of its earliest plan.
use Rattle.std.proofs.Common.{ℕ, List, length, sym, subst}
use Rattle.lock_model.specs.declared.instance.Instance.{Instance}
use Rattle.lock_model.specs.declared.group.Group.{Group}
use Rattle.lock_rules.specs.Node.{IsNode}
use Rattle.lock_rules.specs.Bound.{bound_of}
use Rattle.lock_rules.proofs.LeafLemmas.{leaf-legal, leaf-under, leaf-cost}
use Rattle.flow_bounds.specs.Whole.{IsWholeCost}

pub bound-whole : (I : Instance) (k : ℕ) (lines : List (List Group)) → IsNode I k lines → IsWholeCost I k lines (bound_of I k lines)
bound-whole I k lines node whole =
    let own : IsNode I (length I.ships) lines = subst (λ k. IsNode I k lines) whole node in
    subst (λ k. IsWholeCost I k lines (bound_of I k lines)) (sym whole) (λ same spots fit. record {
      legal = leaf-legal I spots lines own fit;
      under = leaf-under I spots lines own fit;
      cost = leaf-cost I spots lines own fit;
    }) whole
