-- What is answered to the bytes of a dossier that is refused, by what is told of it.
use Rattle.std.proofs.Common.{ℕ, ◌≡◌, List, inl, inr}
use Rattle.lock_model.specs.declared.instance.Instance.{Instance}
use Rattle.lock_rules.specs.Unfit.{HasNoUnfit, IsFirstUnfit}
use Rattle.certificate_rules.specs.Certificates.{Certificate}
use Rattle.certificate_rules.specs.Failures.{Fails}
use Rattle.certificate_rules.specs.declared.certificate.FailurePlace.{FailurePlace}
use Rattle.certificate_rules.specs.declared.certificate.Reason.{Reason}
use Rattle.cert_text.specs.declared.heading.Form.{Form}
use Rattle.cert_text.specs.Dossier.{Reads, DossierFault}
use Rattle.cert_text.specs.declared.bad.BadDossier.{BadDossier as AnyFault}
use Rattle.run_answers.specs.declared.status.Status.{Status}
use Rattle.run_answers.specs.declared.status.Status.TheVariants.{Good, Open, Words, Refused, ReadFault, WriteFault, NoMemory, BadDossier, Unfit, PlanRefused}
use Rattle.checked_dossiers.specs.RefusalTexts.{rejected_text, fault_text}
use Rattle.checked_dossiers.specs.Refused.{IsRefused, TellsBad, TellsUnfit}

-- what has a text of its own is answered with it
told_bad : (form : Form) (bytes text said : List ℕ) (status : Status) → (text ≡ said → IsRefused form bytes BadDossier text) → TellsBad said status text → IsRefused form bytes status text
told_bad form bytes text said Good refuse told = told
told_bad form bytes text said Open refuse told = told
told_bad form bytes text said Words refuse told = told
told_bad form bytes text said Refused refuse told = told
told_bad form bytes text said ReadFault refuse told = told
told_bad form bytes text said WriteFault refuse told = told
told_bad form bytes text said NoMemory refuse told = told
told_bad form bytes text said BadDossier refuse told = refuse told
told_bad form bytes text said Unfit refuse told = absurd told
told_bad form bytes text said PlanRefused refuse told = told

pub fault_refused : (form : Form) (bytes : List ℕ) (fault : AnyFault) (status : Status) (text : List ℕ) → DossierFault form bytes fault → TellsBad (fault_text fault) status text → IsRefused form bytes status text
fault_refused form bytes fault status text first told = told_bad form bytes text (fault_text fault) status (λ shown. inl (record { fault = fault; first = first; shown = shown })) told

pub rejected_refused : (form : Form) (bytes : List ℕ) (I : Instance) (C : Certificate) (place : FailurePlace) (reason : Reason) (status : Status) (text : List ℕ)
    → Reads form bytes I C → HasNoUnfit I → Fails I C place reason → TellsBad (rejected_text place reason) status text → IsRefused form bytes status text
rejected_refused form bytes I C place reason status text reads fit fails told =
    told_bad form bytes text (rejected_text place reason) status
    (λ shown. inr (record { instance = I; certificate = C; reads = reads; fit = fit; place = place; reason = reason; fails = fails; shown = shown })) told

pub unfit_refused : (form : Form) (bytes : List ℕ) (I : Instance) (C : Certificate) (ship : ℕ) (status : Status) (text : List ℕ) → Reads form bytes I C → IsFirstUnfit I ship → TellsUnfit I ship status text → IsRefused form bytes status text
unfit_refused form bytes I C ship Good text reads first told = told
unfit_refused form bytes I C ship Open text reads first told = told
unfit_refused form bytes I C ship Words text reads first told = told
unfit_refused form bytes I C ship Refused text reads first told = told
unfit_refused form bytes I C ship ReadFault text reads first told = told
unfit_refused form bytes I C ship WriteFault text reads first told = told
unfit_refused form bytes I C ship NoMemory text reads first told = told
unfit_refused form bytes I C ship BadDossier text reads first told = absurd told
unfit_refused form bytes I C ship Unfit text reads first told = record { instance = I; certificate = C; reads = reads; unfit = record { ship = ship; first = first; shown = told } }
unfit_refused form bytes I C ship PlanRefused text reads first told = told
