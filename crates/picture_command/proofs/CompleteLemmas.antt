-- A dossier that is accepted, and an open one that stands, are drawn, want of memory aside.
use Rattle.std.proofs.Common.{ℕ, ◌≡◌, ◌⊎◌, List, Option, None, Some, Result, Ok, Err, refl, subst}
use Rattle.std.specs.Prelude.{option_map}
use Rattle.list_laws.proofs.Variants.{one-ok}
use Rattle.lock_model.specs.declared.ship.Ship.{Ship}
use Rattle.lock_model.specs.declared.instance.Instance.{Instance}
use Rattle.certificate_rules.specs.Certificates.{Certificate}
use Rattle.line_text.specs.Steps.{◌>>=◌}
use Rattle.instance_text.specs.Draft.{Draft, draft_of}
use Rattle.instance_text.specs.Reading.{reading, instance_part, after_instance}
use Rattle.cert_text.specs.Steps.{or_fault, fault_under}
use Rattle.cert_text.specs.Certificates.{certificate_in}
use Rattle.cert_text.specs.Heading.{headed}
use Rattle.cert_text.specs.Dossier.{version_under, json_of, value_in, rest_in, dossier_in, Reads}
use Rattle.serde_json.specs.Data.{Data}
use Rattle.cert_text.specs.declared.heading.Form.{Form}
use Rattle.cert_text.specs.declared.heading.Form.TheVariants as form
use Rattle.cert_text.specs.declared.heading.Heading.{Heading}
use Rattle.cert_text.specs.declared.heading.Heading.TheVariants as kind
use Rattle.cert_text.specs.declared.heading.Version.{Version}
use Rattle.cert_text.specs.declared.bad.BadDossier.{BadDossier as AnyFault}
use Rattle.cert_text.specs.declared.bad.BadDossier.TheVariants as fault
use Rattle.picture_page.specs.declared.times.Dial.{Dial}
use Rattle.checked_dossiers.specs.Accepted.{IsAccepted, IsNotAccepted}
use Rattle.checked_dossiers.specs.Standing.{IsStanding, IsNoStanding}
use Rattle.checked_dossiers.proofs.ExactLemmas.{accepted_wants, standing_wants}
use Rattle.run_answers.proofs.EndedLemmas.{good_or}
use Rattle.run_answers.specs.declared.status.Status.{Status}
use Rattle.run_answers.specs.declared.status.Status.TheVariants.{Good, NoMemory}
use Rattle.picture_command.specs.Headings.{heading_in}
use Rattle.picture_command.specs.Pictures.{PrintsCheapest, PrintsBounded, AnswersHeaded, AnswersPicture}

-- ---- the heading of what is read as a dossier

-- the second of two steps that both went well
second : {A B : Type 0} (r : Result A AnyFault) (s : A → Result B AnyFault) (p : A × B) → (r >>= λ a. s a >>= λ b. Ok (a, b)) ≡ Ok p → s p.0 ≡ Ok p.1
second {A = A} {B = B} (Ok a) s p e = by_rest (s a) refl e
  where
    by_rest : (t : Result B AnyFault) → s a ≡ t → (t >>= λ b. Ok (a, b)) ≡ Ok p → s p.0 ≡ Ok p.1
    by_rest (Ok b) is f = subst (λ (q : A × B). s q.0 ≡ Ok q.1) (one-ok (Ok (a, b)) (a, b) p refl f) is
    by_rest (Err g) is f = absurd cc
second (Err f) s p e = absurd cc

-- a heading was found, and it gives a version
record HasVersion (version_of : Heading → Option Version) (found : Option Heading) : Type 0 where
  heading : Heading
  is : found ≡ Some heading
  version : Version
  gives : version_of heading ≡ Some version

has_version : {A : Type 0} (version_of : Heading → Option Version) (h : Heading) (told : Option Version) (next : Version → Result A AnyFault) (a : A)
    → version_of h ≡ told → (or_fault fault.NoMark told >>= next) ≡ Ok a → HasVersion version_of (Some h)
has_version version_of h None next a is e = absurd cc
has_version version_of h (Some version) next a is e = record { heading = h; is = refl; version = version; gives = is }

first_version : {A : Type 0} (version_of : Heading → Option Version) (found : Option (Heading × List ℕ)) (next : Heading × List ℕ → Version → Result A AnyFault) (a : A)
    → (or_fault fault.NoMark found >>= λ f. or_fault fault.NoMark (version_of f.0) >>= next f) ≡ Ok a → HasVersion version_of (option_map (λ f. f.0) found)
first_version version_of None next a e = absurd cc
first_version version_of (Some f) next a e = has_version version_of f.0 (version_of f.0) (next f) a refl e

value_version : (asked : Form) (bytes : List ℕ) (told : Version × Data) → value_in asked bytes ≡ Ok told → HasVersion (version_under asked) (option_map (λ f. f.0) (headed bytes))
unfolding value_in
value_version asked bytes told e = first_version (version_under asked) (headed bytes) (λ found version. or_fault fault.Json (json_of found.1) >>= λ value. Ok (version, value)) told e

valued_version : {C : Type 0} (asked : Form) (bytes : List ℕ) (told : Result (Version × Data) AnyFault) (next : Version × Data → Result C AnyFault) (certificate : C) → value_in asked bytes ≡ told → (told >>= next) ≡ Ok certificate → HasVersion (version_under asked) (option_map (λ f. f.0) (headed bytes))
valued_version asked bytes (Ok told) next certificate is e = value_version asked bytes told is
valued_version asked bytes (Err f) next certificate is e = absurd cc

rest_version : (own : Form) (ships : List Ship) (bytes : List ℕ) (C : Certificate) → rest_in own ships bytes ≡ Ok C → HasVersion (version_under own) (option_map (λ f. f.0) (headed bytes))
unfolding rest_in
rest_version own ships bytes C e = valued_version own bytes (value_in own bytes) (λ found. fault_under fault.Shape (certificate_in own ships found.0 found.1)) C refl e

reads_version : (own : Form) (bytes : List ℕ) (I : Instance) (C : Certificate) → Reads own bytes I C → HasVersion (version_under own) (heading_in bytes)
unfolding Reads dossier_in
reads_version own bytes I C reads =
    rest_version own I.ships (after_instance bytes) C
    (second (fault_under fault.Instance (reading (instance_part bytes))) (λ (d : Draft). rest_in own d.ships (after_instance bytes)) (draft_of I, C) reads)

-- ---- how a picture may end

whole_drawn : (dial : Dial) (bytes : List ℕ) (I : Instance) (C : Certificate) (s : Status) (text : List ℕ) (h : Heading) (version : Version) → IsAccepted bytes I C → version_under form.Whole h ≡ Some version → AnswersHeaded dial (Some h) bytes s text → (s ≡ Good) ⊎ (s ≡ NoMemory)
whole_drawn dial bytes I C s text (kind.Whole v) version accepted is answer =
    good_or (PrintsCheapest dial bytes text) (λ t. IsNotAccepted bytes t text) s (λ refusal. accepted_wants bytes s text refusal I C accepted) answer
whole_drawn dial bytes I C s text (kind.Open v) version accepted is answer = absurd cc

open_drawn : (dial : Dial) (bytes : List ℕ) (I : Instance) (C : Certificate) (s : Status) (text : List ℕ) (h : Heading) (version : Version) → IsStanding bytes I C → version_under form.Open h ≡ Some version → AnswersHeaded dial (Some h) bytes s text → (s ≡ Good) ⊎ (s ≡ NoMemory)
open_drawn dial bytes I C s text (kind.Whole v) version stands is answer = absurd cc
open_drawn dial bytes I C s text (kind.Open v) version stands is answer =
    good_or (PrintsBounded dial bytes text) (λ t. IsNoStanding bytes t text) s (λ refusal. standing_wants bytes s text refusal I C stands) answer

-- what `check` accepts is drawn
pub accepted_drawn : (dial : Dial) (bytes : List ℕ) (I : Instance) (C : Certificate) (s : Status) (text : List ℕ) → IsAccepted bytes I C → AnswersPicture dial bytes s text → (s ≡ Good) ⊎ (s ≡ NoMemory)
accepted_drawn dial bytes I C s text accepted answer =
    let found = reads_version form.Whole bytes I C accepted.reads in
    whole_drawn dial bytes I C s text found.heading found.version accepted found.gives (subst (λ h. AnswersHeaded dial h bytes s text) found.is answer)

-- and so is an open dossier that stands
pub standing_drawn : (dial : Dial) (bytes : List ℕ) (I : Instance) (C : Certificate) (s : Status) (text : List ℕ) → IsStanding bytes I C → AnswersPicture dial bytes s text → (s ≡ Good) ⊎ (s ≡ NoMemory)
standing_drawn dial bytes I C s text stands answer =
    let found = reads_version form.Open bytes I C stands.reads in
    open_drawn dial bytes I C s text found.heading found.version stands found.gives (subst (λ h. AnswersHeaded dial h bytes s text) found.is answer)
