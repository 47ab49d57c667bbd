-- A text means one instance, or has one first defect.
use Rattle.std.proofs.Common.{◌≡◌, ℕ, List, Result, Ok, Err, IfOk, IfErr, ap}
use Rattle.lock_model.specs.declared.instance.Instance.{Instance}
use Rattle.line_text.proofs.ReaderLemmas as reader
use Rattle.instance_text.specs.declared.bad.Bad.{Bad}
use Rattle.instance_text.specs.declared.bad.Kind.{Kind}
use Rattle.instance_text.specs.Draft.{Draft, draft_of}
use Rattle.line_text.specs.declared.progress.Progress.{Progress}
use Rattle.instance_text.specs.Reading.{reading, Means, Defect, bad, answered}
use Rattle.lock_model.proofs.InstanceLemmas.{same_instance}

draft_of-one : (I I' : Instance) → draft_of I ≡ draft_of I' → I ≡ I'
draft_of-one I I' same = same_instance I I' (ap (λ (d : Draft). d.chambers) same) (ap (λ (d : Draft). d.ships) same)

pub Means-one : (text : List ℕ) (I I' : Instance) → Means text I → Means text I' → I ≡ I'
unfolding Means
Means-one text I I' first second = reader.one_value (reading text) draft_of draft_of-one I I' first second

pub Means-no_defect : (text : List ℕ) (I : Instance) (line : ℕ) (kind : Kind) → Means text I → Defect text line kind → ⊥
unfolding Means Defect
Means-no_defect text I line kind first second = reader.no_fault (reading text) draft_of I (bad line kind) first second

-- a reader that is right where it answers answers all that is so
pub reads_each : (text : List ℕ) (r : Result Instance Bad) → IfOk r (λ i. reading text ≡ Ok (draft_of i)) → IfErr r (λ b. reading text ≡ Err b) → (I : Instance) → Means text I → r ≡ Ok I
unfolding Means
reads_each text r ok err I means = reader.reads_each (reading text) draft_of draft_of-one r ok err I means

pub refuses_each : (text : List ℕ) (r : Result Instance Bad) → IfOk r (λ i. reading text ≡ Ok (draft_of i)) → IfErr r (λ b. reading text ≡ Err b) → (line : ℕ) (kind : Kind) → Defect text line kind → r ≡ Err (bad line kind)
unfolding Defect
refuses_each text r ok err line kind defect = reader.refuses_each (reading text) draft_of r ok err (bad line kind) defect

-- from what a text reads as
pub means_if : (text : List ℕ) (r : Result Instance Bad) → IfOk r (λ i. reading text ≡ Ok (draft_of i)) → IfOk r (Means text)
unfolding Means
means_if text (Ok J) read = read
means_if text (Err b) read = read

pub defect_if : (text : List ℕ) (r : Result Instance Bad) → IfErr r (λ b. reading text ≡ Err b) → IfErr r (λ b. Defect text b.line b.kind)
unfolding Defect
defect_if text (Ok J) err = err
defect_if text (Err b) err = err

-- what a line says, by whether it has a fault
pub read_if : (read : Result (Progress × Draft) Kind) (draft : Draft) (r : Result Progress Kind) → read ≡ answered draft r → IfOk r (λ p. read ≡ Ok (p, draft))
read_if read draft (Ok p) value = value
read_if read draft (Err kind) value = tt

pub bad_if : (read : Result (Progress × Draft) Kind) (draft : Draft) (r : Result Progress Kind) → read ≡ answered draft r → IfErr r (λ kind. read ≡ Err kind)
bad_if read draft (Ok p) value = tt
bad_if read draft (Err kind) value = value
