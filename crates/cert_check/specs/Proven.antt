-- What a certificate proves of its plan.
use Rattle.std.specs.Prelude.{ℕ, ◌≡◌, ◌≤◌}
use Rattle.lock_model.specs.declared.instance.Instance.{Instance}
use Rattle.lock_model.specs.declared.plan.Plan.{Plan}
use Rattle.lock_rules.specs.Plan.{IsLegal, IsCheapest, cost_of}
use Rattle.certificate_rules.specs.Certificates.{Certificate, Stands, HasNoOpenLeaf}
use Rattle.certificate_rules.specs.Low.{IsLow}

-- The plan is legal and costs as much, and every legal plan costs at least the low.
pub record IsProvenLow (I : Instance) (P : Plan) (low cost : ℕ) : Type 0 where
  pub legal : IsLegal I P
  pub costs : cost_of I P ≡ cost
  pub least : (Q : Plan) → IsLegal I Q → low ≤ cost_of I Q

-- The certificate stands, with this low and this cost.
abbrev pub StandsWith : Instance → Certificate → ℕ → ℕ → Type 0
StandsWith I C low cost = Stands I C × IsLow I C low × (cost ≡ C.cost)

-- Where the certificate leaves no node open, its plan is cheapest, and the low is the cost.
abbrev pub ProvesCheapest : Instance → Certificate → ℕ → ℕ → Type 0
ProvesCheapest I C low cost = HasNoOpenLeaf C.tree → IsCheapest I C.plan × (low ≡ cost)
