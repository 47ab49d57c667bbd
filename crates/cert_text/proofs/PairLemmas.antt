-- An instance and what follows it: a text has one meaning, or one first fault.
use Rattle.std.proofs.Common.{◌≡◌, ◌∙◌, ◌++◌, ℕ, List, Some, Result, Ok, Err, IfOk, IfErr, sym, ap, ap₂, subst}
use Rattle.lock_model.specs.declared.ship.Ship.{Ship}
use Rattle.lock_model.specs.declared.instance.Instance.{Instance}
use Rattle.line_text.specs.Steps.{◌>>=◌}
use Rattle.instance_text.specs.Draft.{Draft, draft_of}
use Rattle.instance_text.specs.declared.bad.Bad.{Bad}
use Rattle.instance_text.specs.Reading.{reading, Means, Defect, instance_part, after_instance}
use Rattle.lock_model.proofs.InstanceLemmas.{same_instance}
use Rattle.instance_text.proofs.TextBackLemmas.{canonical_means}
use Rattle.instance_text.proofs.PartBackLemmas.{canonical_part, canonical_rest}
use Rattle.serde_json.specs.Data.{Data}
use Rattle.cert_text.specs.Dossier.{json_line, json_of, framed, pair_in}
use Rattle.cert_text.specs.Answers.{IsFault, IsAnswer, IsFaultAnswer}
use Rattle.cert_text.specs.Steps.{fault_under}
use Rattle.cert_text.specs.declared.bad.DossierError.{DossierError}
use Rattle.cert_text.specs.declared.bad.DossierError.TheVariants.{Fault, NoMemory}
use Rattle.cert_text.specs.declared.bad.BadDossier.{BadDossier}
use Rattle.cert_text.specs.declared.bad.BadDossier.TheVariants as fault

-- a fault of the first step is that of all
pub fault_before : {A B : Type 0} (r : Result A BadDossier) (next : A → Result B BadDossier) (e : DossierError) → IsFault r e → IsFault (r >>= next) e
fault_before r next NoMemory bad = tt
fault_before r next (Fault f) bad = ap (λ s. s >>= next) bad

-- the same of a value's parts, which are at fault by their numbers
pub shape_before : {A B : Type 0} (r : Result A ℕ) (next : A → Result B ℕ) (e : DossierError) → IsFault (fault_under fault.Shape r) e → IsFault (fault_under fault.Shape (r >>= next)) e
shape_before (Ok x) next NoMemory bad = tt
shape_before (Ok x) next (Fault f) bad = cc
shape_before (Err n) next NoMemory bad = tt
shape_before (Err n) next (Fault f) bad = cc

module _ {C : Type 0} where
  -- what is made of an instance and of what follows it
  abbrev made : (List Ship → List ℕ → Result C BadDossier) → List ℕ → Result Draft Bad → Result (Draft × C) BadDossier
  made rest bytes r = fault_under fault.Instance r >>= λ d. rest d.ships bytes >>= λ c. Ok (d, c)

  -- the same where the instance is read
  abbrev with_rest : Instance → Result C BadDossier → Result (Draft × C) BadDossier
  with_rest I s = s >>= λ c. Ok (draft_of I, c)

  -- a frame is read as its instance and what its value means
  frame_back : (I : Instance) (heading : List ℕ) (d : Data) (c : C) (rest : List Ship → List ℕ → Result C BadDossier) → rest I.ships (heading ++ json_line d) ≡ Ok c → pair_in rest (framed I heading d) ≡ Ok (draft_of I, c)
  unfolding Means
  frame_back I heading d c rest reads =
      let more = heading ++ json_line d in
      ap (made rest (after_instance (framed I heading d))) (ap reading (canonical_part I more) ∙ canonical_means I) ∙ ap (with_rest I) (ap (rest I.ships) (canonical_rest I more) ∙ reads)

  -- a text that is the frame of a value, which is read back
  pub framed_back : (I : Instance) (heading : List ℕ) (d value : Data) (c : C) (rest : List Ship → List ℕ → Result C BadDossier) (text : List ℕ) → text ≡ framed I heading d → d ≡ value → json_of (json_line d) ≡ Some d
      → (json_of (json_line value) ≡ Some value → rest I.ships (heading ++ json_line value) ≡ Ok c) → pair_in rest text ≡ Ok (draft_of I, c)
  framed_back I heading d value c rest text printed same back reads =
      ap (pair_in rest) (printed ∙ ap (framed I heading) same) ∙ frame_back I heading value c rest (reads (subst (λ v. json_of (json_line v) ≡ Some v) same back))

  -- a text is read part by part
  pub pair_no_instance : (rest : List Ship → List ℕ → Result C BadDossier) (text : List ℕ) (b : Bad) → Defect (instance_part text) b.line b.kind → pair_in rest text ≡ Err (fault.Instance b)
  unfolding Defect
  pair_no_instance rest text b defect = ap (made rest (after_instance text)) defect

  pub pair_read : (rest : List Ship → List ℕ → Result C BadDossier) (text : List ℕ) (I : Instance) (bytes : List ℕ) (c : C) → Means (instance_part text) I → bytes ≡ after_instance text → rest I.ships bytes ≡ Ok c → pair_in rest text ≡ Ok (draft_of I, c)
  unfolding Means
  pair_read rest text I bytes c means is reads = ap (made rest (after_instance text)) means ∙ ap (with_rest I) (ap (rest I.ships) (sym is) ∙ reads)

  pub pair_no_rest : (rest : List Ship → List ℕ → Result C BadDossier) (text : List ℕ) (I : Instance) (bytes : List ℕ) (f : BadDossier) → Means (instance_part text) I → bytes ≡ after_instance text → rest I.ships bytes ≡ Err f → pair_in rest text ≡ Err f
  unfolding Means
  pair_no_rest rest text I bytes f means is bad = ap (made rest (after_instance text)) means ∙ ap (with_rest I) (ap (rest I.ships) (sym is) ∙ bad)

  pub one-meaning : (told : Result (Draft × C) BadDossier) (I J : Instance) (c d : C) → told ≡ Ok (draft_of I, c) → told ≡ Ok (draft_of J, d) → (I ≡ J) × (c ≡ d)
  one-meaning told I J c d first second =
      let same : ◌≡◌ {A = Result (Draft × C) BadDossier} (Ok (draft_of I, c)) (Ok (draft_of J, d)) = sym first ∙ second in
      let pair : ◌≡◌ {A = Draft × C} (draft_of I, c) (draft_of J, d) = cc in
      (same_instance I J (ap (λ (p : Draft × C). p.0.chambers) pair) (ap (λ (p : Draft × C). p.0.ships) pair), ap (λ (p : Draft × C). p.1) pair)

  no-fault : (told : Result (Draft × C) BadDossier) (I : Instance) (c : C) (f : BadDossier) → told ≡ Ok (draft_of I, c) → told ≡ Err f → ⊥
  no-fault told I c f first second = let same : ◌≡◌ {A = Result (Draft × C) BadDossier} (Ok (draft_of I, c)) (Err f) = sym first ∙ second in cc

  one-fault : (told : Result (Draft × C) BadDossier) (f g : BadDossier) → told ≡ Err f → told ≡ Err g → f ≡ g
  one-fault told f g first second = let same : ◌≡◌ {A = Result (Draft × C) BadDossier} (Err f) (Err g) = sym first ∙ second in cc

  -- an answer that is right where it is one is all that is so, or want of memory
  module _ {A : Type 0} (held : A → Instance × C) where
    pub each_answer : (told : Result (Draft × C) BadDossier) (r : Result A DossierError) → IfOk r (λ a. told ≡ Ok (draft_of (held a).0, (held a).1)) → IfErr r (IsFault told) → (I : Instance) (c : C) → told ≡ Ok (draft_of I, c) → IsAnswer held (I, c) r
    each_answer told (Ok a) ok err I c is = let same = one-meaning told (held a).0 I (held a).1 c ok is in ap₂ (λ J d. (J, d)) same.0 same.1
    each_answer told (Err NoMemory) ok err I c is = tt
    each_answer told (Err (Fault f)) ok err I c is = no-fault told I c f is err

    pub each_fault_answer : (told : Result (Draft × C) BadDossier) (r : Result A DossierError) → IfOk r (λ a. told ≡ Ok (draft_of (held a).0, (held a).1)) → IfErr r (IsFault told) → (f : BadDossier) → told ≡ Err f → IsFaultAnswer f r
    each_fault_answer told (Ok a) ok err f is = no-fault told (held a).0 (held a).1 f ok is
    each_fault_answer told (Err NoMemory) ok err f is = tt
    each_fault_answer told (Err (Fault g)) ok err f is = one-fault told g f err is
