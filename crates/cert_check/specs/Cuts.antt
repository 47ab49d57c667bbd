-- What is wrong with a cut of a certificate.
use Rattle.std.specs.Prelude.{◌≡◌, ◌⊎◌}
use Rattle.lock_model.specs.declared.instance.Instance.{Instance}
use Rattle.certificate_rules.specs.declared.certificate.Reason.{Reason}
use Rattle.certificate_rules.specs.declared.certificate.Reason.TheVariants as reason
use Rattle.closing_rules.specs.ProvedCuts.{CertCut, IsShaped, IsProved}

-- The cut is misshaped, or it has its shape and its refutation fails.
pub record IsUnproved (I : Instance) (c : CertCut) (r : Reason) : Type 0 where
  pub why : ((IsShaped I c → ⊥) × (r ≡ reason.CutShape)) ⊎ (IsShaped I c × (IsProved I c → ⊥) × (r ≡ reason.CutUnproved))
