-- What is answered where a page is asked for.
use Rattle.std.proofs.Common.{ℕ, ◌≡◌, ◌∙◌, List, Some, None, subst, sym}
use Rattle.std.specs.declared.option.Option.{Option}
use Rattle.lock_model.specs.declared.instance.Instance.{Instance}
use Rattle.lock_model.specs.declared.plan.Plan.{Plan}
use Rattle.lock_rules.specs.Plan.{IsLegal}
use Rattle.certificate_rules.specs.Certificates.{Certificate}
use Rattle.cert_text.specs.declared.heading.Heading.{Heading}
use Rattle.cert_text.specs.declared.heading.Version.{Version}
use Rattle.cert_text.specs.declared.heading.Heading.TheVariants as heading
use Rattle.picture_page.specs.declared.times.Dial.{Dial}
use Rattle.picture_page.specs.declared.heads.Known.{Known}
use Rattle.picture_page.specs.declared.heads.Known.TheVariants as known
use Rattle.plan_commands.specs.Planned.{IsPlanned, AnswersIllegal}
use Rattle.checked_dossiers.specs.Accepted.{IsAccepted, IsNotAccepted}
use Rattle.checked_dossiers.specs.Standing.{IsStanding, HasLow, IsNoStanding}
use Rattle.run_answers.specs.Ended.{IsGoodOr}
use Rattle.run_answers.specs.Sources.{IsFair}
use Rattle.run_answers.proofs.EndedLemmas.{refused_good}
use Rattle.run_answers.specs.Texts.{no_memory_text}
use Rattle.run_answers.specs.declared.status.Status.{Status}
use Rattle.run_answers.specs.declared.status.Status.TheVariants.{Good, Open, Words, Refused, ReadFault, WriteFault, NoMemory, BadDossier, Unfit, PlanRefused}
use Rattle.picture_command.specs.Headings.{heading_in}
use Rattle.picture_command.specs.Pictures.{IsPicture, PrintsPlan, PrintsCheapest, PrintsBounded, known_of, AnswersPlan, AnswersDossier, AnswersOpenDossier, AnswersHeaded, AnswersPicture, TellsPicture}

-- ---- what is answered where there is no page

pub plan_refused : (dial : Dial) (bytes : List ℕ) (s : Status) (text : List ℕ) → AnswersIllegal bytes s text → AnswersPlan dial bytes s text
plan_refused dial bytes s text refusal = refused_good (PrintsPlan dial bytes text) (λ t. AnswersIllegal bytes t text) s (λ never. never) refusal

pub dossier_refused : (dial : Dial) (bytes : List ℕ) (s : Status) (text : List ℕ) → IsNotAccepted bytes s text → AnswersDossier dial bytes s text
dossier_refused dial bytes s text refusal = refused_good (PrintsCheapest dial bytes text) (λ t. IsNotAccepted bytes t text) s (λ never. never) refusal

pub open_refused : (dial : Dial) (bytes : List ℕ) (s : Status) (text : List ℕ) → IsNoStanding bytes s text → AnswersOpenDossier dial bytes s text
open_refused dial bytes s text refusal = refused_good (PrintsBounded dial bytes text) (λ t. IsNoStanding bytes t text) s (λ never. never) refusal

-- ---- what is answered where there is a page

page_told : (dial : Dial) (kind : Known) (I : Instance) (P : Plan) (Page : Type 0) (Refusal : Status → Type 0) (s : Status) (text : List ℕ)
    → (IsPicture dial kind I P text → Page) → (text ≡ no_memory_text → Refusal NoMemory) → TellsPicture dial kind I P s text → IsGoodOr Page Refusal s
page_told dial kind I P Page Refusal Good text page wanting told = page told
page_told dial kind I P Page Refusal Open text page wanting told = absurd told
page_told dial kind I P Page Refusal Words text page wanting told = absurd told
page_told dial kind I P Page Refusal Refused text page wanting told = absurd told
page_told dial kind I P Page Refusal ReadFault text page wanting told = absurd told
page_told dial kind I P Page Refusal WriteFault text page wanting told = absurd told
page_told dial kind I P Page Refusal NoMemory text page wanting told = wanting told
page_told dial kind I P Page Refusal BadDossier text page wanting told = absurd told
page_told dial kind I P Page Refusal Unfit text page wanting told = absurd told
page_told dial kind I P Page Refusal PlanRefused text page wanting told = absurd told

pub plan_pictured : (dial : Dial) (bytes : List ℕ) (I : Instance) (P : Plan) (s : Status) (text : List ℕ) → IsPlanned bytes I P → IsLegal I P
    → TellsPicture dial known.Legal I P s text → AnswersPlan dial bytes s text
plan_pictured dial bytes I P s text planned legal told =
    page_told dial known.Legal I P (PrintsPlan dial bytes text) (λ t. AnswersIllegal bytes t text) s text
    (λ page. record { instance = I; plan = P; planned = record { planned = planned; legal = legal }; page = page }) (λ shown. shown) told

pub dossier_pictured : (dial : Dial) (bytes : List ℕ) (I : Instance) (C : Certificate) (s : Status) (text : List ℕ) → IsAccepted bytes I C
    → TellsPicture dial known.Optimal I C.plan s text → AnswersDossier dial bytes s text
dossier_pictured dial bytes I C s text accepted told =
    page_told dial known.Optimal I C.plan (PrintsCheapest dial bytes text) (λ t. IsNotAccepted bytes t text) s text
    (λ page. record { instance = I; certificate = C; accepted = accepted; page = page }) (λ shown. shown) told

pub open_pictured : (dial : Dial) (bytes : List ℕ) (I : Instance) (C : Certificate) (low : ℕ) (kind : Known) (s : Status) (text : List ℕ) → IsStanding bytes I C → HasLow I C low
    → kind ≡ known_of low C.cost → TellsPicture dial kind I C.plan s text → AnswersOpenDossier dial bytes s text
open_pictured dial bytes I C low kind s text stands lowest is told =
    page_told dial kind I C.plan (PrintsBounded dial bytes text) (λ t. IsNoStanding bytes t text) s text
    (λ page. record { instance = I; certificate = C; low = low; standing = stands; lowest = lowest; page = subst (λ k. IsPicture dial k I C.plan text) is page }) (λ shown. shown) told

-- ---- what is answered is told by the heading

by_heading : (dial : Dial) (bytes : List ℕ) (s : Status) (text : List ℕ) (found told : Option Heading) → found ≡ told → found ≡ heading_in bytes → AnswersHeaded dial told bytes s text → AnswersPicture dial bytes s text
by_heading dial bytes s text found told is ensured answer = subst (λ h. AnswersHeaded dial h bytes s text) (sym is ∙ ensured) answer

pub plan_follows : (dial : Dial) (bytes : List ℕ) (s : Status) (text : List ℕ) (found : Option Heading) → found ≡ None → found ≡ heading_in bytes → AnswersPlan dial bytes s text → AnswersPicture dial bytes s text
plan_follows dial bytes s text found is ensured answer = by_heading dial bytes s text found None is ensured answer

pub certificate_follows : (dial : Dial) (bytes : List ℕ) (s : Status) (text : List ℕ) (found : Option Heading) (version : Version) → found ≡ Some (heading.Whole version) → found ≡ heading_in bytes → AnswersDossier dial bytes s text → AnswersPicture dial bytes s text
certificate_follows dial bytes s text found version is ensured answer = by_heading dial bytes s text found (Some (heading.Whole version)) is ensured answer

pub open_follows : (dial : Dial) (bytes : List ℕ) (s : Status) (text : List ℕ) (found : Option Heading) (version : Version) → found ≡ Some (heading.Open version) → found ≡ heading_in bytes → AnswersOpenDossier dial bytes s text → AnswersPicture dial bytes s text
open_follows dial bytes s text found version is ensured answer = by_heading dial bytes s text found (Some (heading.Open version)) is ensured answer

-- ---- to bytes neither that words are bad nor that a fault was counted is answered

no_words : (dial : Dial) (found : Option Heading) (bytes text : List ℕ) → AnswersHeaded dial found bytes Words text → ⊥
no_words dial None bytes text says = says
no_words dial (Some (heading.Whole version)) bytes text says = says
no_words dial (Some (heading.Open version)) bytes text says = says

no_read_fault : (dial : Dial) (found : Option Heading) (bytes text : List ℕ) → AnswersHeaded dial found bytes ReadFault text → ⊥
no_read_fault dial None bytes text says = says
no_read_fault dial (Some (heading.Whole version)) bytes text says = says
no_read_fault dial (Some (heading.Open version)) bytes text says = says

no_write_fault : (dial : Dial) (found : Option Heading) (bytes text : List ℕ) → AnswersHeaded dial found bytes WriteFault text → ⊥
no_write_fault dial None bytes text says = says
no_write_fault dial (Some (heading.Whole version)) bytes text says = says
no_write_fault dial (Some (heading.Open version)) bytes text says = says

wanting : (dial : Dial) (found : Option Heading) (bytes text : List ℕ) → AnswersHeaded dial found bytes NoMemory text → text ≡ no_memory_text
wanting dial None bytes text says = says
wanting dial (Some (heading.Whole version)) bytes text says = says
wanting dial (Some (heading.Open version)) bytes text says = says

pub picture_fair : (dial : Dial) → IsFair (AnswersPicture dial)
picture_fair dial = record {
  words = λ bytes text says. no_words dial (heading_in bytes) bytes text says;
  read_fault = λ bytes text says. no_read_fault dial (heading_in bytes) bytes text says;
  write_fault = λ bytes text says. no_write_fault dial (heading_in bytes) bytes text says;
  no_memory = λ bytes text says. wanting dial (heading_in bytes) bytes text says;
}
