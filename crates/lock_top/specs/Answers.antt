-- What a run answers: a status and what is written, by the words and the source.
use Rattle.std.specs.Prelude.{ℕ, ◌≡◌, List}
use Rattle.command_words.specs.Meaning.{AreBad}
use Rattle.command_words.specs.declared.commands.Command.{Command}
use Rattle.command_words.specs.declared.commands.Command.TheVariants.{Solve, Check, Lot, Trial, Judge, Play, Replan, Lower, Resume}
use Rattle.lock_io.specs.WholeWrites.{AppendsProperPrefix}
use Rattle.run_answers.specs.Sources.{Drained, IsUnread, AnswersSource, plan_limit}
use Rattle.run_answers.specs.Texts.{bad_words_text, no_memory_text}
use Rattle.run_answers.specs.declared.status.Status.{Status}
use Rattle.run_answers.specs.declared.status.Status.TheVariants.{Good, Open, Words, Refused, ReadFault, WriteFault, NoMemory, BadDossier, Unfit, PlanRefused}
use Rattle.solve_commands.specs.Solving.{solve_limit, AnswersSolve}
use Rattle.solve_commands.specs.Lots.{AnswersLot, AnswersTrial}
use Rattle.checked_dossiers.specs.Refused.{dossier_limit}
use Rattle.dossier_commands.specs.Checking.{AnswersCheck}
use Rattle.dossier_commands.specs.Lowering.{AnswersLower}
use Rattle.resume_command.specs.Resuming.{AnswersResume}
use Rattle.plan_commands.specs.Judging.{AnswersJudge}
use Rattle.plan_commands.specs.Playing.{AnswersPlay}
use Rattle.replan_command.specs.Replanning.{AnswersReplan}
use Rattle.lock_top.specs.Asked.{MeanOnly}
use Rattle.lock_top.specs.Runs.{Run, Got}

-- what is answered to a command
abbrev pub AnswersCommand : Command → Drained → Status → List ℕ → Type 0
AnswersCommand (Solve options) source status text = AnswersSource solve_limit (AnswersSolve options) source status text
AnswersCommand Check source status text = AnswersSource dossier_limit AnswersCheck source status text
AnswersCommand (Lot options) source status text = IsUnread source × AnswersLot options status text
AnswersCommand (Trial options) source status text = IsUnread source × AnswersTrial options status text
AnswersCommand Judge source status text = AnswersSource plan_limit AnswersJudge source status text
AnswersCommand Play source status text = AnswersSource plan_limit AnswersPlay source status text
AnswersCommand (Replan options) source status text = AnswersSource plan_limit (AnswersReplan options) source status text
AnswersCommand Lower source status text = AnswersSource dossier_limit AnswersLower source status text
AnswersCommand (Resume options) source status text = AnswersSource dossier_limit (AnswersResume options) source status text

-- the words mean a command and no other, and this is answered to it
pub record AnswersMeant (words : List (List ℕ)) (source : Drained) (status : Status) (text : List ℕ) : Type 0 where
  pub command : Command
  pub mean : MeanOnly words command
  pub answer : AnswersCommand command source status text

-- that the words are bad, where nothing is read
pub record AnswersBadWords (words : List (List ℕ)) (source : Drained) (text : List ℕ) : Type 0 where
  pub bad : AreBad words
  pub unread : IsUnread source
  pub shown : text ≡ bad_words_text

-- what a run answers
abbrev pub RunAnswers : List (List ℕ) → Drained → Status → List ℕ → Type 0
RunAnswers words source Good text = AnswersMeant words source Good text
RunAnswers words source Open text = AnswersMeant words source Open text
RunAnswers words source Words text = AnswersBadWords words source text
RunAnswers words source Refused text = AnswersMeant words source Refused text
RunAnswers words source ReadFault text = AnswersMeant words source ReadFault text
RunAnswers words source WriteFault text = ⊥
RunAnswers words source NoMemory text = text ≡ no_memory_text
RunAnswers words source BadDossier text = AnswersMeant words source BadDossier text
RunAnswers words source Unfit text = AnswersMeant words source Unfit text
RunAnswers words source PlanRefused text = AnswersMeant words source PlanRefused text

-- the answer was written whole
pub record IsWrittenWhole (run : Run) : Type 0 where
  pub text : List ℕ
  pub answer : RunAnswers run.words run.source run.status text
  pub appended : Got run text

-- the answer of some status was cut off
pub record IsCutOff (run : Run) : Type 0 where
  pub status : Status
  pub text : List ℕ
  pub answer : RunAnswers run.words run.source status text
  pub appended : AppendsProperPrefix run.sink.held run.sink.held_after text
