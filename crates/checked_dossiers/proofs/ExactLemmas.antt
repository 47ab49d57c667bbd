-- A dossier that is accepted or stands is refused for want of memory alone.
use Rattle.std.proofs.Common.{ℕ, ◌≡◌, List, refl, inl, inr, arith}
use Rattle.lock_model.specs.declared.instance.Instance.{Instance}
use Rattle.lock_rules.specs.Unfit.{HasNoUnfit, IsFirstUnfit}
use Rattle.certificate_rules.specs.Certificates.{Certificate, Stands}
use Rattle.certificate_rules.specs.Failures.{Fails}
use Rattle.certificate_rules.proofs.FailLemmas.{fails-not_stands}
use Rattle.certificate_rules.proofs.AcceptLemmas.{whole-low}
use Rattle.cert_text.specs.declared.heading.Form.{Form}
use Rattle.cert_text.specs.declared.heading.Form.TheVariants as form
use Rattle.cert_text.specs.Dossier.{Reads}
use Rattle.cert_text.proofs.FormLemmas.{reads_whole}
use Rattle.run_answers.specs.declared.status.Status.{Status}
use Rattle.run_answers.specs.declared.status.Status.TheVariants.{Good, Open, Words, Refused, ReadFault, WriteFault, NoMemory, BadDossier, Unfit, PlanRefused}
use Rattle.checked_dossiers.specs.Refused.{PrintsUnfit, IsRefused}
use Rattle.checked_dossiers.specs.Accepted.{IsAccepted, IsNotAccepted}
use Rattle.checked_dossiers.specs.Standing.{IsSound, HasLow, IsStanding, IsNoStanding}
use Rattle.checked_dossiers.proofs.FitLemmas.{legal_fits}
use Rattle.checked_dossiers.proofs.OneLemmas.{own_said, no_fault}

-- The bytes are one dossier, of an instance without an unfit ship.
module _ (form : Form) (bytes text : List ℕ) (I : Instance) (C : Certificate) (reads : Reads form bytes I C) (fit : HasNoUnfit I) where
  pub no_unfit : PrintsUnfit form bytes text → ⊥
  no_unfit printed =
      let ship = printed.unfit.ship in
      let first = own_said form bytes I C reads (λ J d. IsFirstUnfit J ship) printed.instance printed.certificate printed.reads printed.unfit.first in
      let fits = fit.fit ship first.known in
      first.unfit fits.chamber fits.known fits.fits

  -- It has no fault either, and its certificate fails nowhere.
  only_memory : Stands I C → (status : Status) → IsRefused form bytes status text → status ≡ NoMemory
  only_memory stands Good refusal = absurd refusal
  only_memory stands Open refusal = absurd refusal
  only_memory stands Words refusal = absurd refusal
  only_memory stands Refused refusal = absurd refusal
  only_memory stands ReadFault refusal = absurd refusal
  only_memory stands WriteFault refusal = absurd refusal
  only_memory stands NoMemory refusal = refl
  only_memory stands BadDossier (inl fault) = absurd (no_fault form bytes I C reads fault.fault fault.first)
  only_memory stands BadDossier (inr failed) =
      absurd (fails-not_stands I C failed.place failed.reason (own_said form bytes I C reads (λ J d. Fails J d failed.place failed.reason) failed.instance failed.certificate failed.reads failed.fails) stands)
  only_memory stands Unfit refusal = absurd (no_unfit refusal)
  only_memory stands PlanRefused refusal = absurd refusal

pub accepted_wants : (bytes : List ℕ) (status : Status) (text : List ℕ) → IsNotAccepted bytes status text → (I : Instance) (C : Certificate) → IsAccepted bytes I C → status ≡ NoMemory
accepted_wants bytes status text refusal I C accepted =
    let stands = accepted.accepts.stands in
    only_memory form.Whole bytes text I C accepted.reads (legal_fits I C.plan stands.legal) stands status refusal

pub standing_wants : (bytes : List ℕ) (status : Status) (text : List ℕ) → IsNoStanding bytes status text → (I : Instance) (C : Certificate) → IsStanding bytes I C → status ≡ NoMemory
standing_wants bytes status text refusal I C standing = only_memory form.Open bytes text I C standing.reads standing.fit standing.stands status refusal

-- a whole dossier that stands is accepted
pub sound_accepted : (bytes : List ℕ) (I : Instance) (C : Certificate) (low : ℕ) → IsSound form.Whole bytes I C → HasLow I C low → IsAccepted bytes I C
sound_accepted bytes I C low sound has =
    let whole = reads_whole bytes I C sound.reads in
    let same : low ≡ C.cost = whole-low I C low whole has.lowest in
    let cost = sound.stands.cost in
    record {
      reads = sound.reads;
      accepts = record { stands = sound.stands; whole = whole };
      cheapest = record { legal = sound.stands.legal; least = λ Q legal. let least = has.least Q legal in omega (arith, least, same, cost) };
      cost = cost;
    }
