-- From what is answered where a part can be kept to what is answered to a source.
use Rattle.std.proofs.Common.{ℕ, ◌≡◌, ◌≢◌, ◌∙◌, List, true, false, sym, subst, inr, refl}
use Rattle.lock_model.specs.declared.instance.Instance.{Instance}
use Rattle.lock_model.specs.declared.plan.Plan.{Plan}
use Rattle.lock_rules.specs.Unfit.{HasNoUnfit}
use Rattle.instance_text.specs.Reading.{Means, instance_part, after_instance}
use Rattle.command_words.specs.declared.commands.ReplanOptions.{ReplanOptions}
use Rattle.plan_text.specs.Reading.{IsPlanText}
use Rattle.replan.specs.declared.remainder.Residual.{Residual}
use Rattle.replan.specs.Rest.{ships_left}
use Rattle.run_answers.specs.Sources.{IsFair}
use Rattle.run_answers.specs.declared.status.Status.{Status}
use Rattle.run_answers.specs.declared.status.Status.TheVariants.{Good, Open, Words, Refused, ReadFault, WriteFault, NoMemory, BadDossier, Unfit, PlanRefused}
use Rattle.replan_command.specs.Keeping.{PrintsKeeping, PrintsRestDossier, PrintsBestAs, PrintsBestKeeping, prints_dossier}
use Rattle.replan_command.specs.Rests.{kept_for, CanKeep, IsLeftFor}
use Rattle.replan_command.specs.Replanning.{AnswersKept, AnswersReplanPlan, AnswersBehind, AnswersReplanInstance, AnswersReplan}
use Rattle.replan_command.proofs.RestLemmas.{left_can}

-- ---- by what is printed where all is shown

-- an answer that isn't good is answered whatever that is
pub open_answers : (A B : List ℕ → Type 0) (options : ReplanOptions) (I : Instance) (G : Plan) (status : Status) (text : List ℕ) → status ≢ Good → AnswersKept A options I G status text → AnswersKept B options I G status text
open_answers A B options I G Good text left answer = absurd (left refl)
open_answers A B options I G Open text left answer = answer
open_answers A B options I G Words text left answer = absurd answer
open_answers A B options I G Refused text left answer = absurd answer
open_answers A B options I G ReadFault text left answer = absurd answer
open_answers A B options I G WriteFault text left answer = absurd answer
open_answers A B options I G NoMemory text left answer = answer
open_answers A B options I G BadDossier text left answer = absurd answer
open_answers A B options I G Unfit text left answer = absurd answer
open_answers A B options I G PlanRefused text left answer = absurd answer

module _ (options : ReplanOptions) (I : Instance) (G : Plan) (status : Status) (text : List ℕ) (rest : prints_dossier options.dossier (ships_left I (kept_for G options.rest)) ≡ options.dossier) where
  pub dossier_asked : true ≡ options.dossier → AnswersKept (PrintsRestDossier I G options.rest) options I G status text → AnswersKept (PrintsBestKeeping options.dossier I G options.rest) options I G status text
  dossier_asked is answer = subst (λ b. AnswersKept (PrintsBestAs b I G options.rest) options I G status text) (is ∙ sym rest) answer

  pub report_asked : false ≡ options.dossier → AnswersKept (PrintsKeeping I G options.rest) options I G status text → AnswersKept (PrintsBestKeeping options.dossier I G options.rest) options I G status text
  report_asked is answer = subst (λ b. AnswersKept (PrintsBestAs b I G options.rest) options I G status text) (is ∙ sym rest) answer

-- ---- from the kept part to the plan, the bytes behind the instance, the instance, and all bytes

pub part_answers : (options : ReplanOptions) (I : Instance) (G : Plan) (status : Status) (text : List ℕ) → CanKeep I G options.rest
    → AnswersKept (PrintsBestKeeping options.dossier I G options.rest) options I G status text → AnswersReplanPlan options I G status text
part_answers options I G Good text can answer = record { can = can; answer = answer }
part_answers options I G Open text can answer = record { can = can; answer = answer }
part_answers options I G Words text can answer = absurd answer
part_answers options I G Refused text can answer = absurd answer
part_answers options I G ReadFault text can answer = absurd answer
part_answers options I G WriteFault text can answer = absurd answer
part_answers options I G NoMemory text can answer = answer
part_answers options I G BadDossier text can answer = absurd answer
part_answers options I G Unfit text can answer = absurd answer
part_answers options I G PlanRefused text can answer = absurd answer

-- the same, of what is left
pub kept_answers : (options : ReplanOptions) (I : Instance) (G : Plan) (r : Residual) (status : Status) (text : List ℕ) → IsLeftFor I G options.rest r
    → ((H : Plan) → IsLeftFor I H options.rest r → AnswersKept (PrintsBestKeeping options.dossier I H options.rest) options I H status text) → AnswersReplanPlan options I G status text
kept_answers options I G r status text left answer = part_answers options I G status text (left_can I G r options.rest left) (answer G left)

pub plan_answers : (options : ReplanOptions) (I : Instance) (bytes : List ℕ) (G : Plan) (status : Status) (text : List ℕ) → IsPlanText I bytes G → AnswersReplanPlan options I G status text → AnswersBehind options I bytes status text
plan_answers options I bytes G Good text is answer = record { plan = G; is_text = is; answer = answer }
plan_answers options I bytes G Open text is answer = record { plan = G; is_text = is; answer = answer }
plan_answers options I bytes G Words text is answer = answer
plan_answers options I bytes G Refused text is answer = answer
plan_answers options I bytes G ReadFault text is answer = answer
plan_answers options I bytes G WriteFault text is answer = answer
plan_answers options I bytes G NoMemory text is answer = answer
plan_answers options I bytes G BadDossier text is answer = answer
plan_answers options I bytes G Unfit text is answer = answer
plan_answers options I bytes G PlanRefused text is answer = inr (record { plan = G; is_text = is; answer = answer })

pub behind_answers : (options : ReplanOptions) (I : Instance) (bytes : List ℕ) (status : Status) (text : List ℕ) → HasNoUnfit I → AnswersBehind options I bytes status text → AnswersReplanInstance options I bytes status text
behind_answers options I bytes Good text fit answer = record { fit = fit; answer = answer }
behind_answers options I bytes Open text fit answer = record { fit = fit; answer = answer }
behind_answers options I bytes Words text fit answer = answer
behind_answers options I bytes Refused text fit answer = answer
behind_answers options I bytes ReadFault text fit answer = answer
behind_answers options I bytes WriteFault text fit answer = answer
behind_answers options I bytes NoMemory text fit answer = answer
behind_answers options I bytes BadDossier text fit answer = answer
behind_answers options I bytes Unfit text fit answer = absurd answer
behind_answers options I bytes PlanRefused text fit answer = record { fit = fit; answer = answer }

pub answers_meant : (options : ReplanOptions) (I : Instance) (bytes behind : List ℕ) (status : Status) (text : List ℕ) → Means (instance_part bytes) I → behind ≡ after_instance bytes
    → AnswersReplanInstance options I behind status text → AnswersReplan options bytes status text
answers_meant options I bytes behind status text means is answer = by_status status (subst (λ behind. AnswersReplanInstance options I behind status text) is answer)
  where
    by_status : (status : Status) → AnswersReplanInstance options I (after_instance bytes) status text → AnswersReplan options bytes status text
    by_status Good answer = record { instance = I; means = means; answer = answer }
    by_status Open answer = record { instance = I; means = means; answer = answer }
    by_status Words answer = answer
    by_status Refused answer = absurd answer
    by_status ReadFault answer = answer
    by_status WriteFault answer = answer
    by_status NoMemory answer = answer
    by_status BadDossier answer = answer
    by_status Unfit answer = record { instance = I; means = means; answer = answer }
    by_status PlanRefused answer = record { instance = I; means = means; answer = answer }

-- `replan` says to bytes neither that words are bad nor that a fault was counted
pub replan_fair : (options : ReplanOptions) → IsFair (AnswersReplan options)
replan_fair options = record {
  words = λ bytes text says. says;
  read_fault = λ bytes text says. says;
  write_fault = λ bytes text says. says;
  no_memory = λ bytes text says. says;
}
