-- What `lower` answers to the bytes of an open dossier: a status and what is written.
use Rattle.std.specs.Prelude.{ℕ, ◌≡◌, ◌<◌, List}
use Rattle.lock_model.specs.declared.instance.Instance.{Instance}
use Rattle.certificate_rules.specs.Certificates.{Certificate}
use Rattle.run_answers.specs.Ended.{IsEndedOr}
use Rattle.run_answers.specs.declared.status.Status.{Status}
use Rattle.checked_dossiers.specs.Standing.{IsStanding, HasLow, IsNoStanding}
use Rattle.dossier_commands.specs.DossierTexts.{lower_text}

-- The certificate stands with this low and this cost, no legal plan costs less than the low, and both numbers are printed.
pub record PrintsLow (bytes : List ℕ) (low cost : ℕ) (text : List ℕ) : Type 0 where
  pub instance : Instance
  pub certificate : Certificate
  pub standing : IsStanding bytes instance certificate
  pub lowest : HasLow instance certificate low
  pub cost_is : certificate.cost ≡ cost
  pub shown : text ≡ lower_text low cost

-- low and cost are equal, so the plan is cheapest
pub record PrintsEqual (bytes text : List ℕ) : Type 0 where
  pub cost : ℕ
  pub printed : PrintsLow bytes cost cost text

-- the low is below the cost
pub record PrintsGap (bytes text : List ℕ) : Type 0 where
  pub low : ℕ
  pub cost : ℕ
  pub below : low < cost
  pub printed : PrintsLow bytes low cost text

-- what is answered to the bytes of an open dossier
abbrev pub AnswersLower : List ℕ → Status → List ℕ → Type 0
AnswersLower bytes status text = IsEndedOr (PrintsEqual bytes text) (PrintsGap bytes text) (λ s. IsNoStanding bytes s text) status
