-- The plan of a node that holds all ships.
use Rattle.std.proofs.Common.{◌≡◌, ℕ, List, length, sym, ap, ◌∙◌, subst}
use Rattle.lock_model.specs.declared.instance.Instance.{Instance}
use Rattle.lock_model.specs.declared.group.Group.{Group}
use Rattle.lock_rules.specs.Node.{IsNode}
use Rattle.lock_rules.specs.Leaf.{plan_of}
use Rattle.lock_rules.specs.Plan.{IsLegal, cost_of}
use Rattle.lock_rules.specs.Bound.{bound_of}
use Rattle.lock_rules.proofs.LeafLemmas.{leaf-legal, leaf-cost}
use Rattle.node_work.specs.declared.moorings.Mooring.{Mooring}
use Rattle.node_work.specs.Moorings.{AreMoored, spots_by}
use Rattle.node_work.proofs.MooringLemmas.{moored_fit}

module _ (I : Instance) (k : ℕ) (lines : List (List Group)) (ms : List Mooring) (node : IsNode I k lines) (whole : k ≡ length I.ships) (moored : AreMoored I ms lines) where
  own : IsNode I (length I.ships) lines
  own = subst (λ k. IsNode I k lines) whole node

  pub whole_legal : IsLegal I (plan_of I (spots_by ms) lines)
  whole_legal = leaf-legal I (spots_by ms) lines own (moored_fit I ms lines moored)

  pub whole_cost : cost_of I (plan_of I (spots_by ms) lines) ≡ bound_of I k lines
  whole_cost = leaf-cost I (spots_by ms) lines own (moored_fit I ms lines moored) ∙ ap (λ k. bound_of I k lines) (sym whole)
