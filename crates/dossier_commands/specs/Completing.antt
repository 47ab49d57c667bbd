-- How `lower` may end on an open dossier whose instance has no unfit ship: its certificate stands and it is done, or it fails and is refused, or memory was wanting or the sink failed.
use Rattle.std.specs.Prelude.{ℕ, ◌<◌, ⊤}
use Rattle.lock_model.specs.declared.instance.Instance.{Instance}
use Rattle.certificate_rules.specs.Certificates.{Certificate, Stands}
use Rattle.certificate_rules.specs.Failures.{Fails}
use Rattle.certificate_rules.specs.declared.certificate.FailurePlace.{FailurePlace}
use Rattle.certificate_rules.specs.declared.certificate.Reason.{Reason}
use Rattle.run_answers.specs.declared.status.Status.{Status}
use Rattle.run_answers.specs.declared.status.Status.TheVariants.{Good, Open, Words, Refused, ReadFault, WriteFault, NoMemory, BadDossier, Unfit, PlanRefused}
use Rattle.checked_dossiers.specs.Standing.{HasLow}

-- the certificate fails first somewhere
abbrev pub FailsSomewhere : Instance → Certificate → Type 0
FailsSomewhere I C = (place : FailurePlace) × (reason : Reason) × Fails I C place reason

-- how `lower` may end
abbrev pub MayLower : Instance → Certificate → Status → Type 0
MayLower I C Good = Stands I C × HasLow I C C.cost
MayLower I C Open = Stands I C × ((low : ℕ) × (low < C.cost) × HasLow I C low)
MayLower I C Words = ⊥
MayLower I C Refused = ⊥
MayLower I C ReadFault = ⊥
MayLower I C WriteFault = ⊤
MayLower I C NoMemory = ⊤
MayLower I C BadDossier = FailsSomewhere I C
MayLower I C Unfit = ⊥
MayLower I C PlanRefused = ⊥
