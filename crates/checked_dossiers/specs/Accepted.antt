-- Bytes that are a dossier with an accepted certificate, and what is answered to others.
use Rattle.std.specs.Prelude.{ℕ, ◌≡◌, List}
use Rattle.lock_model.specs.declared.instance.Instance.{Instance}
use Rattle.lock_rules.specs.Plan.{IsCheapest, cost_of}
use Rattle.certificate_rules.specs.Certificates.{Certificate, Accepts}
use Rattle.cert_text.specs.declared.heading.Form.TheVariants as form
use Rattle.cert_text.specs.Dossier.{Reads}
use Rattle.run_answers.specs.declared.status.Status.{Status}
use Rattle.checked_dossiers.specs.Refused.{IsRefused}

-- The bytes are a dossier, and its certificate is accepted; so its plan is cheapest and has its cost.
pub record IsAccepted (bytes : List ℕ) (I : Instance) (C : Certificate) : Type 0 where
  pub reads : Reads form.Whole bytes I C
  pub accepts : Accepts I C
  pub cheapest : IsCheapest I C.plan
  pub cost : cost_of I C.plan ≡ C.cost

-- what is answered to bytes that aren't a dossier with an accepted certificate
abbrev pub IsNotAccepted : List ℕ → Status → List ℕ → Type 0
IsNotAccepted bytes status text = IsRefused form.Whole bytes status text
