-- What is known of a refusal.
use Rattle.std.specs.Prelude.{◌≡◌, ⊤, Result, Ok, Err}
use Rattle.cert_text.specs.declared.bad.BadDossier.{BadDossier}
use Rattle.cert_text.specs.declared.bad.DossierError.{DossierError}
use Rattle.cert_text.specs.declared.bad.DossierError.TheVariants.{Fault, NoMemory}

-- want of memory, or this fault and its cause
abbrev pub IsCausedFault : BadDossier → Type 0 → DossierError → Type 0
IsCausedFault f Cause NoMemory = ⊤
IsCausedFault f Cause (Fault g) = (g ≡ f) × Cause

-- want of memory, or the fault that a reading ends with
abbrev pub IsFault : {A : Type 0} → Result A BadDossier → DossierError → Type 0
IsFault r NoMemory = ⊤
IsFault r (Fault f) = r ≡ Err f

-- the answer holds this value, which is read from it so, or is want of memory
abbrev pub IsAnswer : {A B : Type 0} → (A → B) → B → Result A DossierError → Type 0
IsAnswer held x (Ok y) = held y ≡ x
IsAnswer held x (Err NoMemory) = ⊤
IsAnswer held x (Err (Fault f)) = ⊥

-- the answer is this fault, or want of memory
abbrev pub IsFaultAnswer : {A : Type 0} → BadDossier → Result A DossierError → Type 0
IsFaultAnswer f (Ok x) = ⊥
IsFaultAnswer f (Err NoMemory) = ⊤
IsFaultAnswer f (Err (Fault g)) = g ≡ f
