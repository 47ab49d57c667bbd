-- How `lower` ends on an open dossier whose instance has no unfit ship.
use Rattle.std.proofs.Common.{ℕ, ◌≡◌, ◌<◌, ◌⊎◌, List, sym, subst, inl, inr}
use Rattle.lock_model.specs.declared.instance.Instance.{Instance}
use Rattle.lock_rules.specs.Unfit.{HasNoUnfit}
use Rattle.certificate_rules.specs.Certificates.{Certificate, Stands}
use Rattle.certificate_rules.specs.Failures.{Fails}
use Rattle.cert_text.specs.Dossier.{Reads}
use Rattle.run_answers.specs.declared.status.Status.{Status}
use Rattle.run_answers.specs.declared.status.Status.TheVariants.{Good, Open, Words, Refused, ReadFault, WriteFault, NoMemory, BadDossier, Unfit, PlanRefused}
use Rattle.checked_dossiers.specs.Refused.{PrintsFault, PrintsRejected}
use Rattle.checked_dossiers.specs.Standing.{IsStanding, HasLow}
use Rattle.checked_dossiers.proofs.OneLemmas.{own_said, no_fault}
use Rattle.checked_dossiers.proofs.ExactLemmas.{no_unfit}
use Rattle.dossier_commands.specs.Lowering.{PrintsLow, AnswersLower}
use Rattle.dossier_commands.specs.Completing.{FailsSomewhere, MayLower}
use Rattle.cert_text.specs.declared.heading.Form.TheVariants as form

-- ---- what is answered to the bytes of an open dossier whose instance has no unfit ship

module _ (bytes : List ℕ) (I : Instance) (C : Certificate) (reads : Reads form.Open bytes I C) (fit : HasNoUnfit I) where
  pub own_standing : (J : Instance) (D : Certificate) → IsStanding bytes J D → Stands I C
  own_standing J D standing = own_said form.Open bytes I C reads Stands J D standing.reads standing.stands

  pub own_fails : (text : List ℕ) → PrintsFault form.Open bytes text ⊎ PrintsRejected form.Open bytes text → FailsSomewhere I C
  own_fails text (inl fault) = absurd (no_fault form.Open bytes I C reads fault.fault fault.first)
  own_fails text (inr rejected) = (rejected.place, rejected.reason, own_said form.Open bytes I C reads (λ J D. Fails J D rejected.place rejected.reason) rejected.instance rejected.certificate rejected.reads rejected.fails)

  own_low : (low cost : ℕ) (text : List ℕ) → PrintsLow bytes low cost text → HasLow I C low × (C.cost ≡ cost)
  own_low low cost text printed = own_said form.Open bytes I C reads (λ J D. HasLow J D low × (D.cost ≡ cost)) printed.instance printed.certificate printed.standing.reads (printed.lowest, printed.cost_is)

  pub lower_ends : (s : Status) (text : List ℕ) → AnswersLower bytes s text → MayLower I C s
  lower_ends Good text answer =
      let printed = answer.printed in
      let low = own_low answer.cost answer.cost text printed in
      (own_standing printed.instance printed.certificate printed.standing, subst (HasLow I C) (sym low.1) low.0)
  lower_ends Open text answer =
      let printed = answer.printed in
      let low = own_low answer.low answer.cost text printed in
      (own_standing printed.instance printed.certificate printed.standing, (answer.low, subst (λ cost. answer.low < cost) (sym low.1) answer.below, low.0))
  lower_ends Words text answer = answer
  lower_ends Refused text answer = answer
  lower_ends ReadFault text answer = answer
  lower_ends WriteFault text answer = tt
  lower_ends NoMemory text answer = tt
  lower_ends BadDossier text answer = own_fails text answer
  lower_ends Unfit text answer = no_unfit form.Open bytes text I C reads fit answer
  lower_ends PlanRefused text answer = answer
