-- What `replan` answers: a status and what is written. Each refusal comes only behind those above it.
use Rattle.std.specs.Prelude.{ℕ, ◌≡◌, ◌⊎◌, List}
use Rattle.lock_model.specs.declared.instance.Instance.{Instance}
use Rattle.lock_model.specs.declared.plan.Plan.{Plan}
use Rattle.lock_rules.specs.Unfit.{HasNoUnfit}
use Rattle.instance_text.specs.Reading.{Means, instance_part, after_instance}
use Rattle.command_words.specs.declared.commands.DayRest.{DayRest}
use Rattle.command_words.specs.declared.commands.ReplanOptions.{ReplanOptions}
use Rattle.plan_text.specs.declared.kinds.PlanKind.{PlanKind}
use Rattle.plan_text.specs.Reading.{IsPlanText, IsPlanFault}
use Rattle.plan_text.specs.FaultTexts.{fault_text}
use Rattle.plan_text.specs.BreakTexts.{break_text, late_text}
use Rattle.replan.specs.declared.refusal.ReplanError.{ReplanError}
use Rattle.replan.specs.declared.refusal.ReplanError.TheVariants.{Kept, Late}
use Rattle.run_answers.specs.Refusals.{IsDefect, IsUnfitShip}
use Rattle.run_answers.specs.Texts.{no_memory_text}
use Rattle.run_answers.specs.declared.status.Status.{Status}
use Rattle.run_answers.specs.declared.status.Status.TheVariants.{Good, Open, Words, Refused, ReadFault, WriteFault, NoMemory, BadDossier, Unfit, PlanRefused}
use Rattle.replan_command.specs.Rests.{CanKeep, IsRefusalFor}
use Rattle.replan_command.specs.Keeping.{PrintsBestKeeping, PrintsOpenKeeping}

-- What is answered where a part of the plan G can be kept, and `Best` is what is printed where all is shown.
abbrev pub AnswersKept : (List ℕ → Type 0) → ReplanOptions → Instance → Plan → Status → List ℕ → Type 0
AnswersKept Best options I G Good text = Best text
AnswersKept Best options I G Open text = PrintsOpenKeeping options.nodes options.turns I G options.rest text
AnswersKept Best options I G Words text = ⊥
AnswersKept Best options I G Refused text = ⊥
AnswersKept Best options I G ReadFault text = ⊥
AnswersKept Best options I G WriteFault text = ⊥
AnswersKept Best options I G NoMemory text = text ≡ no_memory_text
AnswersKept Best options I G BadDossier text = ⊥
AnswersKept Best options I G Unfit text = ⊥
AnswersKept Best options I G PlanRefused text = ⊥

-- the kept part of the plan G can be kept, and this is answered
pub record AnswersPart (options : ReplanOptions) (I : Instance) (G : Plan) (status : Status) (text : List ℕ) : Type 0 where
  pub can : CanKeep I G options.rest
  pub answer : AnswersKept (PrintsBestKeeping options.dossier I G options.rest) options I G status text

-- why there is no way on: the first break of the kept part, its first lockage that ends too late, or the one for which the first late turn has begun
abbrev pub refusal_text : Instance → Plan → ReplanError → List ℕ
refusal_text I G (Kept broken) = break_text I G broken
refusal_text I G (Late p) = late_text p

-- what has begun in the plan G can't be kept
pub record IsPartRefused (I : Instance) (G : Plan) (D : DayRest) (text : List ℕ) : Type 0 where
  pub error : ReplanError
  pub refusal : IsRefusalFor I G D error
  pub shown : text ≡ refusal_text I G error

-- what is answered to a plan of the instance
abbrev pub AnswersReplanPlan : ReplanOptions → Instance → Plan → Status → List ℕ → Type 0
AnswersReplanPlan options I G Good text = AnswersPart options I G Good text
AnswersReplanPlan options I G Open text = AnswersPart options I G Open text
AnswersReplanPlan options I G Words text = ⊥
AnswersReplanPlan options I G Refused text = ⊥
AnswersReplanPlan options I G ReadFault text = ⊥
AnswersReplanPlan options I G WriteFault text = ⊥
AnswersReplanPlan options I G NoMemory text = text ≡ no_memory_text
AnswersReplanPlan options I G BadDossier text = ⊥
AnswersReplanPlan options I G Unfit text = ⊥
AnswersReplanPlan options I G PlanRefused text = IsPartRefused I G options.rest text

-- the bytes are a plan text of a plan, and this is answered to it
pub record AnswersPlanText (options : ReplanOptions) (I : Instance) (bytes : List ℕ) (status : Status) (text : List ℕ) : Type 0 where
  pub plan : Plan
  pub is_text : IsPlanText I bytes plan
  pub answer : AnswersReplanPlan options I plan status text

-- the first fault of the bytes as a plan text
pub record IsPlanTextFault (I : Instance) (bytes text : List ℕ) : Type 0 where
  pub line : ℕ
  pub kind : PlanKind
  pub fault : IsPlanFault I bytes line kind
  pub shown : text ≡ fault_text line kind

-- what is answered to the bytes behind an instance whose ships each fit some chamber
abbrev pub AnswersBehind : ReplanOptions → Instance → List ℕ → Status → List ℕ → Type 0
AnswersBehind options I bytes Good text = AnswersPlanText options I bytes Good text
AnswersBehind options I bytes Open text = AnswersPlanText options I bytes Open text
AnswersBehind options I bytes Words text = ⊥
AnswersBehind options I bytes Refused text = ⊥
AnswersBehind options I bytes ReadFault text = ⊥
AnswersBehind options I bytes WriteFault text = ⊥
AnswersBehind options I bytes NoMemory text = text ≡ no_memory_text
AnswersBehind options I bytes BadDossier text = ⊥
AnswersBehind options I bytes Unfit text = ⊥
AnswersBehind options I bytes PlanRefused text = IsPlanTextFault I bytes text ⊎ AnswersPlanText options I bytes PlanRefused text

-- each ship fits some chamber, and this is answered to the bytes
pub record AnswersFit (options : ReplanOptions) (I : Instance) (bytes : List ℕ) (status : Status) (text : List ℕ) : Type 0 where
  pub fit : HasNoUnfit I
  pub answer : AnswersBehind options I bytes status text

-- what is answered to an instance and the bytes behind it
abbrev pub AnswersReplanInstance : ReplanOptions → Instance → List ℕ → Status → List ℕ → Type 0
AnswersReplanInstance options I bytes Good text = AnswersFit options I bytes Good text
AnswersReplanInstance options I bytes Open text = AnswersFit options I bytes Open text
AnswersReplanInstance options I bytes Words text = ⊥
AnswersReplanInstance options I bytes Refused text = ⊥
AnswersReplanInstance options I bytes ReadFault text = ⊥
AnswersReplanInstance options I bytes WriteFault text = ⊥
AnswersReplanInstance options I bytes NoMemory text = text ≡ no_memory_text
AnswersReplanInstance options I bytes BadDossier text = ⊥
AnswersReplanInstance options I bytes Unfit text = IsUnfitShip I text
AnswersReplanInstance options I bytes PlanRefused text = AnswersFit options I bytes PlanRefused text

-- the instance part of the bytes means an instance, and this is answered to it and the bytes behind it
pub record AnswersReplanMeant (options : ReplanOptions) (bytes : List ℕ) (status : Status) (text : List ℕ) : Type 0 where
  pub instance : Instance
  pub means : Means (instance_part bytes) instance
  pub answer : AnswersReplanInstance options instance (after_instance bytes) status text

-- WHAT `replan` ANSWERS TO BYTES
abbrev pub AnswersReplan : ReplanOptions → List ℕ → Status → List ℕ → Type 0
AnswersReplan options bytes Good text = AnswersReplanMeant options bytes Good text
AnswersReplan options bytes Open text = AnswersReplanMeant options bytes Open text
AnswersReplan options bytes Words text = ⊥
AnswersReplan options bytes Refused text = IsDefect (instance_part bytes) text
AnswersReplan options bytes ReadFault text = ⊥
AnswersReplan options bytes WriteFault text = ⊥
AnswersReplan options bytes NoMemory text = text ≡ no_memory_text
AnswersReplan options bytes BadDossier text = ⊥
AnswersReplan options bytes Unfit text = AnswersReplanMeant options bytes Unfit text
AnswersReplan options bytes PlanRefused text = AnswersReplanMeant options bytes PlanRefused text
