-- Bytes that are a dossier whose certificate stands, and what is answered to those that are no open one.
use Rattle.std.specs.Prelude.{ℕ, ◌≤◌, List}
use Rattle.lock_model.specs.declared.instance.Instance.{Instance}
use Rattle.lock_model.specs.declared.plan.Plan.{Plan}
use Rattle.lock_rules.specs.Plan.{IsLegal, cost_of}
use Rattle.lock_rules.specs.Unfit.{HasNoUnfit}
use Rattle.certificate_rules.specs.Certificates.{Certificate, Stands}
use Rattle.certificate_rules.specs.Low.{IsLow}
use Rattle.cert_text.specs.declared.heading.Form.{Form}
use Rattle.cert_text.specs.declared.heading.Form.TheVariants as form
use Rattle.cert_text.specs.Dossier.{Reads}
use Rattle.run_answers.specs.declared.status.Status.{Status}
use Rattle.checked_dossiers.specs.Refused.{IsRefused}

-- The bytes are a dossier of this form, of an instance without an unfit ship, and its certificate stands.
pub record IsSound (form : Form) (bytes : List ℕ) (I : Instance) (C : Certificate) : Type 0 where
  pub reads : Reads form bytes I C
  pub fit : HasNoUnfit I
  pub stands : Stands I C

-- the low of the certificate, and no legal plan costs less
pub record HasLow (I : Instance) (C : Certificate) (low : ℕ) : Type 0 where
  pub lowest : IsLow I C low
  pub least : (Q : Plan) → IsLegal I Q → low ≤ cost_of I Q

-- they are an open dossier that stands
abbrev pub IsStanding : List ℕ → Instance → Certificate → Type 0
IsStanding bytes I C = IsSound form.Open bytes I C

-- what is answered to bytes that aren't an open dossier that stands
abbrev pub IsNoStanding : List ℕ → Status → List ℕ → Type 0
IsNoStanding bytes status text = IsRefused form.Open bytes status text
