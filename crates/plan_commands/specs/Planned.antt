-- Bytes that are an instance part and then a plan text, and what is answered where they name no legal plan.
use Rattle.std.specs.Prelude.{ℕ, ◌≡◌, ◌⊎◌, List}
use Rattle.lock_model.specs.declared.instance.Instance.{Instance}
use Rattle.lock_model.specs.declared.plan.Plan.{Plan}
use Rattle.lock_rules.specs.Plan.{IsLegal}
use Rattle.instance_text.specs.Reading.{Means, instance_part, after_instance}
use Rattle.mooring_rules.specs.PlanBreaks.{IsFirstBrokenPlan}
use Rattle.mooring_rules.specs.declared.breaks.BrokenPlan.{BrokenPlan}
use Rattle.plan_text.specs.Reading.{IsPlanText, IsPlanFault}
use Rattle.plan_text.specs.declared.kinds.PlanKind.{PlanKind}
use Rattle.plan_text.specs.FaultTexts.{fault_text}
use Rattle.plan_text.specs.BreakTexts.{break_text}
use Rattle.run_answers.specs.Refusals.{IsDefect}
use Rattle.run_answers.specs.Texts.{no_memory_text}
use Rattle.run_answers.specs.declared.status.Status.{Status}
use Rattle.run_answers.specs.declared.status.Status.TheVariants.{Good, Open, Words, Refused, ReadFault, WriteFault, NoMemory, BadDossier, Unfit, PlanRefused}

-- The bytes are an instance part of I, and then a plan text of P.
pub record IsPlanned (bytes : List ℕ) (I : Instance) (P : Plan) : Type 0 where
  pub instance : Means (instance_part bytes) I
  pub plan : IsPlanText I (after_instance bytes) P

-- so they are, and the plan is legal
pub record IsLegallyPlanned (bytes : List ℕ) (I : Instance) (P : Plan) : Type 0 where
  pub planned : IsPlanned bytes I P
  pub legal : IsLegal I P

-- The bytes have an instance part of I, and this is the first fault of the plan text behind it.
pub record IsFault (bytes text : List ℕ) : Type 0 where
  pub instance : Instance
  pub means : Means (instance_part bytes) instance
  pub line : ℕ
  pub kind : PlanKind
  pub fault : IsPlanFault instance (after_instance bytes) line kind
  pub shown : text ≡ fault_text line kind

-- the bytes name a plan, and this is its first break
pub record IsBreak (bytes text : List ℕ) : Type 0 where
  pub instance : Instance
  pub plan : Plan
  pub planned : IsPlanned bytes instance plan
  pub broken : BrokenPlan
  pub first : IsFirstBrokenPlan instance plan broken
  pub shown : text ≡ break_text instance plan broken

-- what is answered where the bytes name no legal plan
abbrev pub AnswersIllegal : List ℕ → Status → List ℕ → Type 0
AnswersIllegal bytes Good text = ⊥
AnswersIllegal bytes Open text = ⊥
AnswersIllegal bytes Words text = ⊥
AnswersIllegal bytes Refused text = IsDefect (instance_part bytes) text
AnswersIllegal bytes ReadFault text = ⊥
AnswersIllegal bytes WriteFault text = ⊥
AnswersIllegal bytes NoMemory text = text ≡ no_memory_text
AnswersIllegal bytes BadDossier text = ⊥
AnswersIllegal bytes Unfit text = ⊥
AnswersIllegal bytes PlanRefused text = IsFault bytes text ⊎ IsBreak bytes text
