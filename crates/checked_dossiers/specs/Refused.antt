-- What is answered to the bytes of a dossier that is refused: a status and what is written.
use Rattle.std.specs.Prelude.{ℕ, ◌≡◌, ◌⊎◌, List}
use Rattle.lock_model.specs.declared.instance.Instance.{Instance}
use Rattle.lock_rules.specs.Unfit.{HasNoUnfit}
use Rattle.certificate_rules.specs.Certificates.{Certificate}
use Rattle.certificate_rules.specs.Failures.{Fails}
use Rattle.certificate_rules.specs.declared.certificate.FailurePlace.{FailurePlace}
use Rattle.certificate_rules.specs.declared.certificate.Reason.{Reason}
use Rattle.cert_text.specs.declared.bad.BadDossier.{BadDossier as AnyFault}
use Rattle.cert_text.specs.declared.heading.Form.{Form}
use Rattle.cert_text.specs.Dossier.{Reads, DossierFault}
use Rattle.run_answers.specs.Refusals.{IsUnfitShip}
use Rattle.run_answers.specs.Texts.{no_memory_text, unfit_text}
use Rattle.run_answers.specs.declared.status.Status.{Status}
use Rattle.run_answers.specs.declared.status.Status.TheVariants.{Good, Open, Words, Refused, ReadFault, WriteFault, NoMemory, BadDossier, Unfit, PlanRefused}
use Rattle.checked_dossiers.specs.RefusalTexts.{rejected_text, fault_text}

-- the most bytes of a dossier that are read
abbrev pub dossier_limit : ℕ
dossier_limit = 9007199254740992

-- ---- a dossier of this form

-- the first fault of the bytes
pub record PrintsFault (form : Form) (bytes text : List ℕ) : Type 0 where
  pub fault : AnyFault
  pub first : DossierFault form bytes fault
  pub shown : text ≡ fault_text fault

-- the bytes are a dossier of an instance with an unfit ship
pub record PrintsUnfit (form : Form) (bytes text : List ℕ) : Type 0 where
  pub instance : Instance
  pub certificate : Certificate
  pub reads : Reads form bytes instance certificate
  pub unfit : IsUnfitShip instance text

-- The bytes are a dossier of an instance without an unfit ship, and its certificate fails first at this place and for this reason.
pub record PrintsRejected (form : Form) (bytes text : List ℕ) : Type 0 where
  pub instance : Instance
  pub certificate : Certificate
  pub reads : Reads form bytes instance certificate
  pub fit : HasNoUnfit instance
  pub place : FailurePlace
  pub reason : Reason
  pub fails : Fails instance certificate place reason
  pub shown : text ≡ rejected_text place reason

-- what is answered where the bytes are no dossier of the form, a ship fits no chamber, or the certificate fails
abbrev pub IsRefused : Form → List ℕ → Status → List ℕ → Type 0
IsRefused form bytes Good text = ⊥
IsRefused form bytes Open text = ⊥
IsRefused form bytes Words text = ⊥
IsRefused form bytes Refused text = ⊥
IsRefused form bytes ReadFault text = ⊥
IsRefused form bytes WriteFault text = ⊥
IsRefused form bytes NoMemory text = text ≡ no_memory_text
IsRefused form bytes BadDossier text = PrintsFault form bytes text ⊎ PrintsRejected form bytes text
IsRefused form bytes Unfit text = PrintsUnfit form bytes text
IsRefused form bytes PlanRefused text = ⊥

-- ---- a refusal, or want of memory for saying so

-- that a dossier has a fault or a failure with this text
abbrev pub TellsBad : List ℕ → Status → List ℕ → Type 0
TellsBad said BadDossier text = text ≡ said
TellsBad said NoMemory text = text ≡ no_memory_text
TellsBad said status text = ⊥

-- that a ship fits no chamber
abbrev pub TellsUnfit : Instance → ℕ → Status → List ℕ → Type 0
TellsUnfit I ship Unfit text = text ≡ unfit_text I ship
TellsUnfit I ship NoMemory text = text ≡ no_memory_text
TellsUnfit I ship status text = ⊥
