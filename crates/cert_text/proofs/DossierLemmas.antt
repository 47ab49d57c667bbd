-- The canonical dossier is read back, and a text has one meaning.
use Rattle.std.proofs.Common.{◌≡◌, ◌∙◌, ◌++◌, ℕ, List, [], ◌∷◌, Some, Result, Ok, Err, IfOk, IfErr, refl, sym, ap, ap₂, append_assoc}
use Rattle.lock_model.specs.declared.ship.Ship.{Ship}
use Rattle.lock_model.specs.declared.instance.Instance.{Instance}
use Rattle.certificate_rules.specs.Certificates.{Certificate}
use Rattle.instance_text.specs.declared.bad.Bad.{Bad}
use Rattle.instance_text.specs.Reading.{Means, Defect, instance_part, after_instance}
use Rattle.instance_text.specs.Canonical.{canonical}
use Rattle.cert_text.specs.Answers.{IsFault, IsAnswer, IsFaultAnswer}
use Rattle.cert_text.specs.declared.bad.DossierError.{DossierError}
use Rattle.cert_text.specs.declared.bad.DossierError.TheVariants.{Fault, NoMemory}
use Rattle.cert_text.specs.declared.heading.Form.{Form}
use Rattle.cert_text.specs.declared.heading.Form.TheVariants as form
use Rattle.cert_text.specs.declared.heading.Version.{Version}
use Rattle.cert_text.specs.declared.heading.Version.TheVariants.{First}
use Rattle.cert_text.specs.Versions.{version_of}
use Rattle.serde_json.specs.Data.{Data}
use Rattle.cert_text.specs.Certificates.{certificate_data, IsReadBack}
use Rattle.cert_text.specs.Dossier.{heading_line, json_line, framed, dossier, json_of, value_in, rest_in, dossier_in, Reads, DossierFault, IsFirstFault}
use Rattle.cert_text.specs.declared.bad.BadDossier.{BadDossier}
use Rattle.cert_text.specs.declared.bad.BadDossier.TheVariants as fault
use Rattle.cert_text.proofs.HeadingLemmas.{heading_back}
use Rattle.cert_text.proofs.VersionLemmas.{open_later}
use Rattle.cert_text.proofs.PairLemmas.{fault_before, framed_back, pair_no_instance, pair_read, pair_no_rest, each_answer, each_fault_answer}

-- what is printed step by step
pub printed : (I : Instance) (heading : List ℕ) (d : Data) (a b c text : List ℕ) → a ≡ canonical I → b ≡ a ++ heading → c ≡ (b ++ text) ++ 10 ∷ [] → text ++ 10 ∷ [] ≡ json_line d → c ≡ framed I heading d
printed I heading d a b c text first second third line =
    third ∙ append_assoc b text (10 ∷ []) ∙ ap (λ l. b ++ l) line ∙ ap (λ l. l ++ json_line d) (second ∙ ap (λ l. l ++ heading) first) ∙ append_assoc (canonical I) heading (json_line d)

-- the frame with a certificate's value is its dossier
pub printed_dossier : (own : Form) (I : Instance) (C : Certificate) (version : Version) (heading : List ℕ) (d : Data) → version ≡ version_of own C → heading ≡ heading_line own version → d ≡ certificate_data own I.ships C → framed I heading d ≡ dossier own I C
unfolding dossier
printed_dossier own I C version heading d is named same = ap₂ (framed I) (named ∙ ap (heading_line own) is) same

later : (own : Form) (C : Certificate) (version : Version) → version ≡ version_of own C → own ≡ form.Open → version ≡ First → ⊥
later form.Whole C version is kind first = cc
later form.Open C version is kind first = open_later C (sym is ∙ first)

rest_back : (own : Form) (ships : List Ship) (C : Certificate) (version : Version) (json : List ℕ) → version ≡ version_of own C → json_of json ≡ Some (certificate_data own ships C) → IsReadBack own ships version C → rest_in own ships (heading_line own version ++ json) ≡ Ok C
unfolding rest_in value_in
rest_back own ships C version json is value certificate =
    let line = heading_back own version json (later own C version is) in
    let found = line.found in
    let known = line.is in
    rw (found, known, value, certificate) refl

-- what is printed of a certificate is read as the pair
pub dossier_back : (own : Form) (I : Instance) (C : Certificate) (version : Version) (heading : List ℕ) (d : Data) (text : List ℕ) → version ≡ version_of own C → heading ≡ heading_line own version → d ≡ certificate_data own I.ships C → text ≡ framed I heading d
    → json_of (json_line d) ≡ Some d → IsReadBack own I.ships version C → Reads own text I C
unfolding Reads dossier_in
dossier_back own I C version heading d text is named same printed back certificate =
    let json = json_line (certificate_data own I.ships C) in
    framed_back I heading d (certificate_data own I.ships C) C (rest_in own) text printed same back
    (λ value. ap (λ h. rest_in own I.ships (h ++ json)) named ∙ rest_back own I.ships C version json is value certificate)

-- ---- one meaning, or one first fault

-- a reader that is right where it answers, answers all that is so or wants memory
module _ {A : Type 0} (held : A → Instance × Certificate) where
  pub reads_each : (own : Form) (text : List ℕ) (r : Result A DossierError) → IfOk r (λ a. Reads own text (held a).0 (held a).1) → IfErr r (IsFirstFault own text) → (I : Instance) (C : Certificate) → Reads own text I C → IsAnswer held (I, C) r
  unfolding Reads DossierFault
  reads_each own text (Ok a) ok err = each_answer held (dossier_in own text) (Ok a) ok err
  reads_each own text (Err NoMemory) ok err = each_answer held (dossier_in own text) (Err NoMemory) ok err
  reads_each own text (Err (Fault f)) ok err = each_answer held (dossier_in own text) (Err (Fault f)) ok err

  pub faults_each : (own : Form) (text : List ℕ) (r : Result A DossierError) → IfOk r (λ a. Reads own text (held a).0 (held a).1) → IfErr r (IsFirstFault own text) → (f : BadDossier) → DossierFault own text f → IsFaultAnswer f r
  unfolding Reads DossierFault
  faults_each own text (Ok a) ok err = each_fault_answer held (dossier_in own text) (Ok a) ok err
  faults_each own text (Err NoMemory) ok err = each_fault_answer held (dossier_in own text) (Err NoMemory) ok err
  faults_each own text (Err (Fault f)) ok err = each_fault_answer held (dossier_in own text) (Err (Fault f)) ok err

-- ---- reading part by part

pub value_fault : (own : Form) (ships : List Ship) (bytes : List ℕ) (e : DossierError) → IsFault (value_in own bytes) e → IsFault (rest_in own ships bytes) e
unfolding rest_in
value_fault own ships bytes e bad = fault_before (value_in own bytes) _ e bad

pub instance_fault : (own : Form) (text : List ℕ) (b : Bad) → Defect (instance_part text) b.line b.kind → DossierFault own text (fault.Instance b)
unfolding DossierFault dossier_in
instance_fault own text b defect = pair_no_instance (rest_in own) text b defect

pub rest_read : (own : Form) (text : List ℕ) (I : Instance) (rest : List ℕ) (C : Certificate) → Means (instance_part text) I → rest ≡ after_instance text → rest_in own I.ships rest ≡ Ok C → Reads own text I C
unfolding Reads dossier_in
rest_read own text I rest C means is reads = pair_read (rest_in own) text I rest C means is reads

pub rest_fault : (own : Form) (text : List ℕ) (I : Instance) (rest : List ℕ) (e : DossierError) → Means (instance_part text) I → rest ≡ after_instance text → IsFault (rest_in own I.ships rest) e → IsFirstFault own text e
unfolding DossierFault dossier_in
rest_fault own text I rest NoMemory means is bad = tt
rest_fault own text I rest (Fault f) means is bad = pair_no_rest (rest_in own) text I rest f means is bad
