-- What `check` answers to the bytes of a dossier: a status and what is written.
use Rattle.std.specs.Prelude.{ℕ, ◌≡◌, List}
use Rattle.lock_model.specs.declared.instance.Instance.{Instance}
use Rattle.certificate_rules.specs.Certificates.{Certificate}
use Rattle.run_answers.specs.Ended.{IsGoodOr}
use Rattle.run_answers.specs.declared.status.Status.{Status}
use Rattle.checked_dossiers.specs.Accepted.{IsAccepted, IsNotAccepted}
use Rattle.dossier_commands.specs.DossierTexts.{accepted_text}

-- The bytes are a dossier with an accepted certificate, and its cost is printed.
pub record PrintsAccepted (bytes text : List ℕ) : Type 0 where
  pub instance : Instance
  pub certificate : Certificate
  pub accepted : IsAccepted bytes instance certificate
  pub shown : text ≡ accepted_text certificate.cost

-- what is answered to the bytes of a dossier
abbrev pub AnswersCheck : List ℕ → Status → List ℕ → Type 0
AnswersCheck bytes status text = IsGoodOr (PrintsAccepted bytes text) (λ s. IsNotAccepted bytes s text) status
