-- What is answered where the bytes name no legal plan is what each command answers.
use Rattle.std.proofs.Common.{ℕ, ◌≡◌, ◌⊎◌, List, inl, inr}
use Rattle.lock_model.specs.declared.instance.Instance.{Instance}
use Rattle.lock_model.specs.declared.plan.Plan.{Plan}
use Rattle.instance_text.specs.Reading.{Means, instance_part, after_instance}
use Rattle.mooring_rules.specs.PlanBreaks.{IsFirstBrokenPlan}
use Rattle.mooring_rules.specs.declared.breaks.BrokenPlan.{BrokenPlan}
use Rattle.lock_rules.specs.Plan.{IsLegal}
use Rattle.plan_text.specs.Neat.{DiffersInX, AreNeat}
use Rattle.plan_text.specs.Reading.{IsPlanFault}
use Rattle.plan_text.specs.declared.kinds.PlanKind.{PlanKind}
use Rattle.plan_text.specs.FaultTexts.{fault_text}
use Rattle.plan_text.specs.BreakTexts.{break_text}
use Rattle.run_answers.specs.Sources.{IsFair}
use Rattle.run_answers.proofs.EndedLemmas.{refused_good}
use Rattle.run_answers.specs.declared.status.Status.{Status}
use Rattle.plan_commands.specs.Planned.{IsPlanned, IsLegallyPlanned, IsFault, IsBreak, AnswersIllegal}
use Rattle.plan_commands.specs.Judging.{judged_text, PrintsJudged, AnswersJudge}
use Rattle.plan_commands.specs.Playing.{PrintsPlayed, AnswersPlay}

pub judge_illegal : (bytes : List ℕ) (status : Status) (text : List ℕ) → AnswersIllegal bytes status text → AnswersJudge bytes status text
judge_illegal bytes status text answer = refused_good (PrintsJudged bytes text) (λ s. AnswersIllegal bytes s text) status (λ never. never) answer

-- `judge` says to bytes neither that words are bad nor that a fault was counted
pub judge_fair : IsFair AnswersJudge
judge_fair = record {
  words = λ bytes text says. says;
  read_fault = λ bytes text says. says;
  write_fault = λ bytes text says. says;
  no_memory = λ bytes text says. says;
}

pub play_illegal : (bytes : List ℕ) (status : Status) (text : List ℕ) → AnswersIllegal bytes status text → AnswersPlay bytes status text
play_illegal bytes status text answer = refused_good (PrintsPlayed bytes text) (λ s. AnswersIllegal bytes s text) status (λ never. never) answer

-- `play` says to bytes neither that words are bad nor that a fault was counted
pub play_fair : IsFair AnswersPlay
play_fair = record {
  words = λ bytes text says. says;
  read_fault = λ bytes text says. says;
  write_fault = λ bytes text says. says;
  no_memory = λ bytes text says. says;
}

-- a plan is refused by a fault of its text, and by its first break
pub fault_refuses : (bytes text : List ℕ) (I : Instance) (line : ℕ) (kind : PlanKind) → Means (instance_part bytes) I → IsPlanFault I (after_instance bytes) line kind → text ≡ fault_text line kind → IsFault bytes text ⊎ IsBreak bytes text
fault_refuses bytes text I line kind means fault shown = inl (record { instance = I; means = means; line = line; kind = kind; fault = fault; shown = shown })

pub break_refuses : (bytes text : List ℕ) (I : Instance) (P : Plan) (broken : BrokenPlan) → IsPlanned bytes I P → IsFirstBrokenPlan I P broken → text ≡ break_text I P broken → IsFault bytes text ⊎ IsBreak bytes text
break_refuses bytes text I P broken planned first shown = inr (record { instance = I; plan = P; planned = planned; broken = broken; first = first; shown = shown })

-- a neat plan of a legal one is reported
pub neat_prints : (bytes text : List ℕ) (I : Instance) (P Q : Plan) → IsLegallyPlanned bytes I P → IsLegal I Q → DiffersInX P Q → AreNeat I Q → text ≡ judged_text I P Q → PrintsJudged bytes text
neat_prints bytes text I P Q planned legal differs neat shown = record {
  instance = I;
  plan = P;
  planned = planned;
  neat = Q;
  is_neat = record { legal = legal; differs = differs; neat = neat };
  shown = shown;
}
