-- What `check` says to the bytes of a dossier.
use Rattle.std.proofs.Common.{ℕ, ◌≡◌, List, inl, inr}
use Rattle.lock_model.specs.declared.instance.Instance.{Instance}
use Rattle.lock_rules.specs.Unfit.{HasNoUnfit}
use Rattle.certificate_rules.specs.Certificates.{Certificate, Accepts}
use Rattle.certificate_rules.specs.Failures.{Fails}
use Rattle.certificate_rules.specs.declared.certificate.FailurePlace.{FailurePlace}
use Rattle.certificate_rules.specs.declared.certificate.Reason.{Reason}
use Rattle.cert_text.specs.Dossier.{Reads}
use Rattle.checked_dossiers.proofs.OneLemmas.{own_said, no_fault}
use Rattle.checked_dossiers.proofs.ExactLemmas.{no_unfit}
use Rattle.run_answers.specs.declared.status.Status.{Status}
use Rattle.run_answers.specs.declared.status.Status.TheVariants.{Good, Open, Words, Refused, ReadFault, WriteFault, NoMemory, BadDossier, Unfit, PlanRefused}
use Rattle.dossier_commands.specs.DossierTexts.{accepted_text}
use Rattle.dossier_commands.specs.Checking.{PrintsAccepted, AnswersCheck}
use Rattle.lock_top.specs.Complete.{MayCheck}
use Rattle.cert_text.specs.declared.heading.Form.TheVariants as form

-- The bytes are a dossier of this instance, which has no unfit ship, and of this certificate.
module _ (bytes : List ℕ) (I : Instance) (C : Certificate) (reads : Reads form.Whole bytes I C) (fit : HasNoUnfit I) where
  -- it is accepted where that was said, and with its own cost
  pub own_accepts : (text : List ℕ) → PrintsAccepted bytes text → Accepts I C
  own_accepts text printed = own_said form.Whole bytes I C reads Accepts printed.instance printed.certificate printed.accepted.reads printed.accepted.accepts

  pub own_shown : (text : List ℕ) → PrintsAccepted bytes text → text ≡ accepted_text C.cost
  own_shown text printed = own_said form.Whole bytes I C reads (λ J D. text ≡ accepted_text D.cost) printed.instance printed.certificate printed.accepted.reads printed.shown

  -- it has no fault, so its certificate fails first where it was said
  pub own_fails : (text : List ℕ) → AnswersCheck bytes BadDossier text → (place : FailurePlace) × (reason : Reason) × Fails I C place reason
  own_fails text (inl fault) = absurd (no_fault form.Whole bytes I C reads fault.fault fault.first)
  own_fails text (inr rejected) = (rejected.place, rejected.reason, own_said form.Whole bytes I C reads (λ J D. Fails J D rejected.place rejected.reason) rejected.instance rejected.certificate rejected.reads rejected.fails)

  pub check_ends : (status : Status) (text : List ℕ) → AnswersCheck bytes status text → MayCheck I C status
  check_ends Good text told = own_accepts text told
  check_ends Open text told = told
  check_ends Words text told = told
  check_ends Refused text told = told
  check_ends ReadFault text told = told
  check_ends WriteFault text told = tt
  check_ends NoMemory text told = tt
  check_ends BadDossier text told = own_fails text told
  check_ends Unfit text told = no_unfit form.Whole bytes text I C reads fit told
  check_ends PlanRefused text told = told
