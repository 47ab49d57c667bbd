-- The clause of a run, from what was answered and what was written.
use Rattle.std.proofs.Common.{ℕ, ◌≡◌, Bool, true, false, List, subst}
use Rattle.std.specs.Io.KnownBytes.{Appends}
use Rattle.cert_text.specs.Dossier.{Reads}
use Rattle.command_words.specs.declared.commands.Command.{Command}
use Rattle.command_words.specs.declared.commands.SolveOptions.{SolveOptions}
use Rattle.command_words.specs.declared.commands.LotOptions.{LotOptions}
use Rattle.command_words.specs.declared.commands.TrialOptions.{TrialOptions}
use Rattle.command_words.specs.declared.commands.Command.TheVariants.{Solve, Check, Lot, Trial, Judge, Play, Replan, Lower, Resume}
use Rattle.lock_model.specs.declared.instance.Instance.{Instance}
use Rattle.instance_text.specs.Reading.{Means}
use Rattle.run_answers.specs.Sources.{Drained, Saying, AnswersBytes}
use Rattle.run_answers.specs.declared.status.Status.{Status}
use Rattle.run_answers.specs.declared.status.Status.TheVariants.{Good, Open, WriteFault}
use Rattle.solve_commands.specs.Searching.{PrintsBest}
use Rattle.solve_commands.specs.Solving.{AnswersSolve}
use Rattle.dossier_commands.specs.Checking.{AnswersCheck}
use Rattle.dossier_commands.specs.Lowering.{AnswersLower}
use Rattle.resume_command.specs.Resuming.{AnswersResume}
use Rattle.plan_commands.specs.Judging.{AnswersJudge}
use Rattle.plan_commands.specs.Playing.{AnswersPlay}
use Rattle.replan_command.specs.Replanning.{AnswersReplan}
use Rattle.lock_top.specs.Asked.{Asks}
use Rattle.lock_top.specs.Answers.{AnswersCommand, RunAnswers}
use Rattle.lock_top.specs.Runs.{Filled, Run, Got}
use Rattle.lock_top.specs.Clauses.{Did, IsSolvedAs, IsLeftOpen, IsDrawn, IsTried, IsTriedOpen, KeepsItsWord}
use Rattle.lock_top.proofs.AnswerLemmas.{meant_answer}
use Rattle.lock_top.proofs.CompleteLemmas.{complete}
use Rattle.cert_text.specs.declared.heading.Form.TheVariants as form

-- ---- what is said to the bytes, in the words of the clauses

solved_as : (asked : Bool) (bytes text : List ℕ) (I : Instance) → Means bytes I → PrintsBest asked I text → IsSolvedAs asked bytes text
solved_as true bytes text I means best = record {
  instance = I;
  certificate = best.certificate;
  means = means;
  formed = best.formed;
  accepts = best.accepts;
  cheapest = best.cheapest;
  cost = best.accepts.stands.cost;
  reads = subst (λ b. Reads form.Whole b I best.certificate) best.shown best.reads;
  shown = best.shown;
}
solved_as false bytes text I means best = record { instance = I; plan = best.plan; means = means; cheapest = best.cheapest; shown = best.shown }

says_solved : (options : SolveOptions) (bytes text : List ℕ) → AnswersSolve options bytes Good text → IsSolvedAs options.dossier bytes text
says_solved options bytes text told = solved_as options.dossier bytes text told.instance told.means told.answer

says_left : (options : SolveOptions) (bytes text : List ℕ) → AnswersSolve options bytes Open text → IsLeftOpen options bytes text
says_left options bytes text told = record { instance = told.instance; means = told.means; left = told.answer }

-- ---- the text that was answered was written whole

module _ (words : List (List ℕ)) (source : Drained) (sink : Filled) (status : Status) (text : List ℕ) (answer : RunAnswers words source status text) (appended : Appends sink.held sink.held_after text) where
  abbrev run : Run
  run = record { words = words; source = source; sink = sink; status = status }

  good : (command : Command) → Asks words command → status ≡ Good → AnswersCommand command source Good text
  good command ask is = meant_answer words source Good text command (subst (λ s. RunAnswers words source s text) is answer) ask.means

  left : (command : Command) → Asks words command → status ≡ Open → AnswersCommand command source Open text
  left command ask is = meant_answer words source Open text command (subst (λ s. RunAnswers words source s text) is answer) ask.means

  whole : status ≡ WriteFault → ⊥
  whole is = subst (λ s. RunAnswers words source s text) is answer

  -- what was said to all the bytes was done
  did : (most : ℕ) (Says : Saying) (s : Status) (Clause : List ℕ → List ℕ → Type 0) → AnswersBytes most Says source s text → ((bytes text : List ℕ) → Says bytes s text → Clause bytes text) → Did Clause run
  did most Says s Clause read so = record { bytes = read.bytes; all = read.read.all; end = read.read.end; text = text; says = so read.bytes text read.answer; got = appended }

  drawn : (options : LotOptions) → Asks words (Lot options) → status ≡ Good → IsDrawn options run
  drawn options ask is =
      let told = good (Lot options) ask is in
      record { instance = told.1.instance; lot = told.1.lot; unread = told.0; got = subst (Got run) told.1.shown appended }

  tried : (options : TrialOptions) → Asks words (Trial options) → status ≡ Good → IsTried options run
  tried options ask is =
      let told = good (Trial options) ask is in
      let optimal = told.1.answer in
      record { instance = told.1.instance; plan = optimal.plan; lot = told.1.lot; unread = told.0; cheapest = optimal.cheapest; got = subst (Got run) optimal.shown appended }

  tried_open : (options : TrialOptions) → Asks words (Trial options) → status ≡ Open → IsTriedOpen options run
  tried_open options ask is =
      let told = left (Trial options) ask is in
      record { instance = told.1.instance; text = text; lot = told.1.lot; unread = told.0; left = told.1.answer; got = appended }

  pub keeps_written : KeepsItsWord run
  keeps_written = record {
    solved = λ options ask is. did _ (AnswersSolve options) Good (IsSolvedAs options.dossier) (good (Solve options) ask is) (says_solved options);
    left_open = λ options ask is. did _ (AnswersSolve options) Open (IsLeftOpen options) (left (Solve options) ask is) (says_left options);
    accepted = λ ask is. did _ AnswersCheck Good _ (good Check ask is) (λ bytes text says. says);
    drawn = drawn;
    tried = tried;
    tried_open = tried_open;
    judged = λ ask is. did _ AnswersJudge Good _ (good Judge ask is) (λ bytes text says. says);
    played = λ ask is. did _ AnswersPlay Good _ (good Play ask is) (λ bytes text says. says);
    replanned = λ options ask is. did _ (AnswersReplan options) Good _ (good (Replan options) ask is) (λ bytes text says. says);
    replanned_open = λ options ask is. did _ (AnswersReplan options) Open _ (left (Replan options) ask is) (λ bytes text says. says);
    proven = λ ask is. did _ AnswersLower Good _ (good Lower ask is) (λ bytes text says. says);
    proven_below = λ ask is. did _ AnswersLower Open _ (left Lower ask is) (λ bytes text says. says);
    resumed = λ options ask is. did _ (AnswersResume options) Good _ (good (Resume options) ask is) (λ bytes text says. says);
    resumed_open = λ options ask is. did _ (AnswersResume options) Open _ (left (Resume options) ask is) (λ bytes text says. says);
    complete = complete words source sink status text answer;
    written = λ is. record { text = text; answer = answer; appended = appended };
    cut_off = λ is. absurd (whole is);
    fault = λ is. absurd (whole is);
  }

-- ---- the text that was answered was cut off
