-- What is answered to the bytes of an instance and a plan, or of a dossier: a status and what is written.
use Rattle.std.specs.Prelude.{ℕ, ◌≡◌, List, Some, None, nat_eq, if◌then◌else◌}
use Rattle.std.specs.declared.option.Option.{Option}
use Rattle.lock_model.specs.declared.instance.Instance.{Instance}
use Rattle.lock_model.specs.declared.plan.Plan.{Plan}
use Rattle.certificate_rules.specs.Certificates.{Certificate}
use Rattle.cert_text.specs.declared.heading.Heading.{Heading}
use Rattle.cert_text.specs.declared.heading.Heading.TheVariants as heading
use Rattle.day_play.specs.Lawful.{IsLawfulDay}
use Rattle.day_play.specs.Playing.{day_of}
use Rattle.picture_page.specs.declared.times.Dial.{Dial}
use Rattle.picture_page.specs.Page.{picture}
use Rattle.picture_page.specs.declared.heads.Known.{Known}
use Rattle.picture_page.specs.declared.heads.Known.TheVariants as known
use Rattle.plan_commands.specs.Planned.{IsLegallyPlanned, AnswersIllegal}
use Rattle.checked_dossiers.specs.Accepted.{IsAccepted, IsNotAccepted}
use Rattle.checked_dossiers.specs.Standing.{IsStanding, HasLow, IsNoStanding}
use Rattle.run_answers.specs.Ended.{IsGoodOr}
use Rattle.run_answers.specs.Texts.{no_memory_text}
use Rattle.run_answers.specs.declared.status.Status.{Status}
use Rattle.run_answers.specs.declared.status.Status.TheVariants.{Good, NoMemory}
use Rattle.picture_command.specs.Headings.{heading_in}

-- The text is the picture of a plan of which this is known and of its day, which is a lawful one.
pub record IsPicture (dial : Dial) (known : Known) (I : Instance) (P : Plan) (text : List ℕ) : Type 0 where
  pub lawful : IsLawfulDay I P (day_of I P)
  pub shown : text ≡ picture known dial I P (day_of I P)

-- The bytes name a legal plan, and its picture says that it is legal.
pub record PrintsPlan (dial : Dial) (bytes text : List ℕ) : Type 0 where
  pub instance : Instance
  pub plan : Plan
  pub planned : IsLegallyPlanned bytes instance plan
  pub page : IsPicture dial known.Legal instance plan text

-- The bytes are a dossier with an accepted certificate, and the picture of its plan says that no legal plan costs less.
pub record PrintsCheapest (dial : Dial) (bytes text : List ℕ) : Type 0 where
  pub instance : Instance
  pub certificate : Certificate
  pub accepted : IsAccepted bytes instance certificate
  pub page : IsPicture dial known.Optimal instance certificate.plan text

-- what a low says of a plan of this cost: where they are equal, that no legal plan costs less
abbrev pub known_of : ℕ → ℕ → Known
known_of low cost = if nat_eq low cost then known.Optimal else known.Open low

-- The bytes are an open dossier that stands, and the picture of its plan says its low, below which no legal plan costs.
pub record PrintsBounded (dial : Dial) (bytes text : List ℕ) : Type 0 where
  pub instance : Instance
  pub certificate : Certificate
  pub low : ℕ
  pub standing : IsStanding bytes instance certificate
  pub lowest : HasLow instance certificate low
  pub page : IsPicture dial (known_of low certificate.cost) instance certificate.plan text

-- what is answered to an instance and a plan, to a dossier, and to an open one
abbrev pub AnswersPlan : Dial → List ℕ → Status → List ℕ → Type 0
AnswersPlan dial bytes status text = IsGoodOr (PrintsPlan dial bytes text) (λ s. AnswersIllegal bytes s text) status

abbrev pub AnswersDossier : Dial → List ℕ → Status → List ℕ → Type 0
AnswersDossier dial bytes status text = IsGoodOr (PrintsCheapest dial bytes text) (λ s. IsNotAccepted bytes s text) status

abbrev pub AnswersOpenDossier : Dial → List ℕ → Status → List ℕ → Type 0
AnswersOpenDossier dial bytes status text = IsGoodOr (PrintsBounded dial bytes text) (λ s. IsNoStanding bytes s text) status

-- by the heading of a certificate, where the bytes have one
abbrev pub AnswersHeaded : Dial → Option Heading → List ℕ → Status → List ℕ → Type 0
AnswersHeaded dial None bytes status text = AnswersPlan dial bytes status text
AnswersHeaded dial (Some (heading.Whole version)) bytes status text = AnswersDossier dial bytes status text
AnswersHeaded dial (Some (heading.Open version)) bytes status text = AnswersOpenDossier dial bytes status text

-- WHAT IS ANSWERED to bytes
abbrev pub AnswersPicture : Dial → List ℕ → Status → List ℕ → Type 0
AnswersPicture dial bytes status text = AnswersHeaded dial (heading_in bytes) bytes status text

-- a picture, or want of memory for it
abbrev pub TellsPicture : Dial → Known → Instance → Plan → Status → List ℕ → Type 0
TellsPicture dial known I P Good text = IsPicture dial known I P text
TellsPicture dial known I P NoMemory text = text ≡ no_memory_text
TellsPicture dial known I P status text = ⊥
