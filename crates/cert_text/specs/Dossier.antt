-- Dossiers: the canonical one, what one means, and its first fault.
use Rattle.std.specs.Prelude.{ℕ, ◌≡◌, ◌++◌, List, [], ◌∷◌, Option, None, Some, Result, Ok, Err, codes, if◌then◌else◌, ⊤}
use Rattle.std.specs.Str.{is_utf8}
use Rattle.lock_model.specs.declared.ship.Ship.{Ship}
use Rattle.lock_model.specs.declared.instance.Instance.{Instance}
use Rattle.certificate_rules.specs.Certificates.{Certificate}
use Rattle.line_text.specs.Steps.{◌>>=◌}
use Rattle.instance_text.specs.Draft.{Draft, draft_of}
use Rattle.instance_text.specs.Reading.{reading, instance_part, after_instance}
use Rattle.instance_text.specs.Canonical.{canonical}
use Rattle.serde_json.specs.Data.{Data}
use Rattle.serde_json.specs.Read.{read}
use Rattle.serde_json.specs.Written.{compact_text}
use Rattle.cert_text.specs.declared.heading.Form.{Form}
use Rattle.cert_text.specs.declared.heading.Form.TheVariants as form
use Rattle.cert_text.specs.declared.heading.Heading.{Heading}
use Rattle.cert_text.specs.declared.heading.Heading.TheVariants.{Whole, Open}
use Rattle.cert_text.specs.declared.heading.Version.{Version}
use Rattle.cert_text.specs.declared.heading.Version.TheVariants.{First, Second, Third, Fourth}
use Rattle.cert_text.specs.declared.bad.BadDossier.{BadDossier}
use Rattle.cert_text.specs.declared.bad.BadDossier.TheVariants as fault
use Rattle.cert_text.specs.declared.bad.DossierError.{DossierError}
use Rattle.cert_text.specs.declared.bad.DossierError.TheVariants.{Fault, NoMemory}
use Rattle.cert_text.specs.Steps.{or_fault, fault_under}
use Rattle.cert_text.specs.Versions.{version_of}
use Rattle.cert_text.specs.Certificates.{certificate_data, certificate_in}
use Rattle.cert_text.specs.Heading.{headed}

-- the heading of a version of this form
abbrev pub heading_line : Form → Version → List ℕ
heading_line form.Whole First = codes "certificate\n"
heading_line form.Whole Second = codes "certificate 2\n"
heading_line form.Whole Third = codes "certificate 3\n"
heading_line form.Whole Fourth = codes "certificate 4\n"
heading_line form.Open First = codes "certificate open\n"
heading_line form.Open Second = codes "certificate open\n"
heading_line form.Open Third = codes "certificate open 3\n"
heading_line form.Open Fourth = codes "certificate open 4\n"

-- a JSON value as text without white space, and a line feed
unfoldable pub json_line : Data → List ℕ
json_line d = compact_text d ++ 10 ∷ []

-- an instance, a heading and a JSON value
abbrev pub framed : Instance → List ℕ → Data → List ℕ
framed I heading d = canonical I ++ (heading ++ json_line d)

-- the canonical dossier of an instance and a certificate, whole or open
unfoldable pub dossier : Form → Instance → Certificate → List ℕ
dossier own I C = framed I (heading_line own (version_of own C)) (certificate_data own I.ships C)

-- the version of a heading of this form
abbrev pub version_under : Form → Heading → Option Version
version_under form.Whole (Whole version) = Some version
version_under form.Open (Open version) = Some version
version_under _ _ = None

-- the JSON value of bytes
unfoldable pub json_of : List ℕ → Option Data
json_of bytes = if is_utf8 bytes then read bytes else None

-- the version and the JSON value of the bytes after the instance part, whose heading is of this form, or their first fault
unfoldable pub value_in : Form → List ℕ → Result (Version × Data) BadDossier
value_in asked bytes = do
  found ← or_fault fault.NoMark (headed bytes)
  version ← or_fault fault.NoMark (version_under asked found.0)
  value ← or_fault fault.Json (json_of found.1)
  Ok (version, value)

-- what the bytes after the part of an instance with these ships mean, or their first fault
unfoldable pub rest_in : Form → List Ship → List ℕ → Result Certificate BadDossier
rest_in own ships bytes = do
  found ← value_in own bytes
  fault_under fault.Shape (certificate_in own ships found.0 found.1)

-- an instance and what the bytes after its part mean by its ships, or the first fault
abbrev pub pair_in : {C : Type 0} → (List Ship → List ℕ → Result C BadDossier) → List ℕ → Result (Draft × C) BadDossier
pair_in rest text = do
  instance ← fault_under fault.Instance (reading (instance_part text))
  certificate ← rest instance.ships (after_instance text)
  Ok (instance, certificate)

-- the instance and the certificate of a dossier of this form, or its first fault
unfoldable pub dossier_in : Form → List ℕ → Result (Draft × Certificate) BadDossier
dossier_in own text = pair_in (rest_in own) text

-- the text is a dossier of this form, of this instance and this certificate
unfoldable pub Reads : Form → List ℕ → Instance → Certificate → Type 0
Reads own text I C = dossier_in own text ≡ Ok (draft_of I, C)

-- the text's first fault
unfoldable pub DossierFault : Form → List ℕ → BadDossier → Type 0
DossierFault own text f = dossier_in own text ≡ Err f

-- want of memory, or the text's first fault
abbrev pub IsFirstFault : Form → List ℕ → DossierError → Type 0
IsFirstFault own text NoMemory = ⊤
IsFirstFault own text (Fault f) = DossierFault own text f
