-- Bytes that name a legal plan are answered with its text, want of memory aside.
use Rattle.std.proofs.Common.{ℕ, ◌≡◌, ◌⊎◌, List, refl, subst, inl, inr}
use Rattle.lock_model.specs.declared.instance.Instance.{Instance}
use Rattle.lock_model.specs.declared.plan.Plan.{Plan}
use Rattle.lock_rules.specs.Plan.{IsLegal}
use Rattle.instance_text.specs.Reading.{instance_part, after_instance}
use Rattle.instance_text.proofs.ReadingLemmas.{Means-one, Means-no_defect}
use Rattle.mooring_rules.proofs.PlanLemmas.{IsFirstBrokenPlan-illegal}
use Rattle.plan_text.specs.Reading.{IsPlanText, IsPlanFault}
use Rattle.plan_text.specs.declared.kinds.PlanKind.{PlanKind}
use Rattle.plan_text.proofs.ReadingLemmas.{IsPlanText-one, IsPlanText-no_fault}
use Rattle.run_answers.specs.Refusals.{IsDefect}
use Rattle.run_answers.proofs.EndedLemmas.{good_or}
use Rattle.run_answers.specs.declared.status.Status.{Status}
use Rattle.run_answers.specs.declared.status.Status.TheVariants.{Good, Open, Words, Refused, ReadFault, WriteFault, NoMemory, BadDossier, Unfit, PlanRefused}
use Rattle.plan_commands.specs.Planned.{IsLegallyPlanned, IsFault, IsBreak, AnswersIllegal}
use Rattle.plan_commands.specs.Judging.{PrintsJudged, AnswersJudge}
use Rattle.plan_commands.specs.Playing.{PrintsPlayed, AnswersPlay}

-- a plan of the one instance is one of the other
plan_text_of : (I J : Instance) (text : List ℕ) (P : Plan) → I ≡ J → IsPlanText I text P → IsPlanText J text P
plan_text_of I J text P same means = subst (λ i. IsPlanText i text P) same means

fault_of : (I J : Instance) (text : List ℕ) (line : ℕ) (kind : PlanKind) → I ≡ J → IsPlanFault I text line kind → IsPlanFault J text line kind
fault_of I J text line kind same fault = subst (λ i. IsPlanFault i text line kind) same fault

legal_of : (I J : Instance) (P Q : Plan) → I ≡ J → P ≡ Q → IsLegal I P → IsLegal J Q
legal_of I J P Q instances plans legal = subst (λ p. IsLegal J p) plans (subst (λ i. IsLegal i P) instances legal)

module _ (bytes text : List ℕ) (I : Instance) (P : Plan) (named : IsLegallyPlanned bytes I P) where
  no_defect : IsDefect (instance_part bytes) text → ⊥
  no_defect d = Means-no_defect (instance_part bytes) I d.line d.kind named.planned.instance d.defect

  no_fault : IsFault bytes text → ⊥
  no_fault f =
      let same = Means-one (instance_part bytes) f.instance I f.means named.planned.instance in
      IsPlanText-no_fault I (after_instance bytes) P f.line f.kind named.planned.plan (fault_of f.instance I (after_instance bytes) f.line f.kind same f.fault)

  no_break : IsBreak bytes text → ⊥
  no_break b =
      let instances = Means-one (instance_part bytes) I b.instance named.planned.instance b.planned.instance in
      let plans = IsPlanText-one b.instance (after_instance bytes) P b.plan (plan_text_of I b.instance (after_instance bytes) P instances named.planned.plan) b.planned.plan in
      IsFirstBrokenPlan-illegal b.instance b.plan b.broken b.first (legal_of I b.instance P b.plan instances plans named.legal)

  no_refusal : IsFault bytes text ⊎ IsBreak bytes text → ⊥
  no_refusal (inl f) = no_fault f
  no_refusal (inr b) = no_break b

  no_illegal : (status : Status) → AnswersIllegal bytes status text → status ≡ NoMemory
  no_illegal Good answer = absurd answer
  no_illegal Open answer = absurd answer
  no_illegal Words answer = absurd answer
  no_illegal Refused answer = absurd (no_defect answer)
  no_illegal ReadFault answer = absurd answer
  no_illegal WriteFault answer = absurd answer
  no_illegal NoMemory answer = refl
  no_illegal BadDossier answer = absurd answer
  no_illegal Unfit answer = absurd answer
  no_illegal PlanRefused answer = absurd (no_refusal answer)

  pub judged_good : (status : Status) → AnswersJudge bytes status text → (status ≡ Good) ⊎ (status ≡ NoMemory)
  judged_good status answer = good_or (PrintsJudged bytes text) (λ s. AnswersIllegal bytes s text) status (no_illegal status) answer

  pub played_good : (status : Status) → AnswersPlay bytes status text → (status ≡ Good) ⊎ (status ≡ NoMemory)
  played_good status answer = good_or (PrintsPlayed bytes text) (λ s. AnswersIllegal bytes s text) status (no_illegal status) answer
