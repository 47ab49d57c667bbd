-- What is answered to words.
use Rattle.std.proofs.Common.{ℕ, ◌≡◌, ◌⊎◌, List, sym, subst, refl, inl, inr}
use Rattle.command_words.specs.Meaning.{MeanCommand, AreBad}
use Rattle.command_words.specs.declared.commands.Command.{Command}
use Rattle.command_words.specs.declared.commands.Command.TheVariants.{Solve, Check, Lot, Trial, Judge, Play, Replan, Lower, Resume}
use Rattle.run_answers.specs.Sources.{Drained, IsUnread}
use Rattle.run_answers.specs.Texts.{bad_words_text, no_memory_text}
use Rattle.run_answers.specs.declared.status.Status.{Status}
use Rattle.run_answers.specs.declared.status.Status.TheVariants.{Good, Open, Words, Refused, ReadFault, WriteFault, NoMemory, BadDossier, Unfit, PlanRefused}
use Rattle.lock_top.specs.Asked.{MeanOnly}
use Rattle.lock_top.specs.Answers.{AnswersCommand, AnswersMeant, RunAnswers}

-- words that are bad
pub answers_bad : (words : List (List ℕ)) (source : Drained) (status : Status) (text : List ℕ) → status ≡ Words → text ≡ bad_words_text → AreBad words → IsUnread source → RunAnswers words source status text
answers_bad words source status text is shown bad unread = subst (λ s. RunAnswers words source s text) (sym is) (record { bad = bad; unread = unread; shown = shown })

-- a command is never answered as bad words or as cut off, and want of memory always has its text
never_words : (command : Command) (source : Drained) (text : List ℕ) → AnswersCommand command source Words text → ⊥
never_words (Solve options) source text answer = answer
never_words (Lot options) source text answer = answer.1
never_words (Trial options) source text answer = answer.1.answer
never_words Check source text answer = answer
never_words Judge source text answer = answer
never_words Play source text answer = answer
never_words (Replan options) source text answer = answer
never_words Lower source text answer = answer
never_words (Resume options) source text answer = answer

never_cut : (command : Command) (source : Drained) (text : List ℕ) → AnswersCommand command source WriteFault text → ⊥
never_cut (Solve options) source text answer = answer
never_cut (Lot options) source text answer = answer.1
never_cut (Trial options) source text answer = answer.1.answer
never_cut Check source text answer = answer
never_cut Judge source text answer = answer
never_cut Play source text answer = answer
never_cut (Replan options) source text answer = answer
never_cut Lower source text answer = answer
never_cut (Resume options) source text answer = answer

want : (command : Command) (source : Drained) (text : List ℕ) → AnswersCommand command source NoMemory text → text ≡ no_memory_text
want (Solve options) source text answer = answer
want (Lot options) source text answer = answer.1
want (Trial options) source text answer = answer.1.answer
want Check source text answer = answer
want Judge source text answer = answer
want Play source text answer = answer
want (Replan options) source text answer = answer
want Lower source text answer = answer
want (Resume options) source text answer = answer

-- what is answered to the only command that the words mean is answered to the words
pub answers_command : (words : List (List ℕ)) (source : Drained) (command : Command) (status : Status) (text : List ℕ) → MeanOnly words command → AnswersCommand command source status text → RunAnswers words source status text
answers_command words source command Good text mean answer = record { command = command; mean = mean; answer = answer }
answers_command words source command Open text mean answer = record { command = command; mean = mean; answer = answer }
answers_command words source command Words text mean answer = absurd (never_words command source text answer)
answers_command words source command Refused text mean answer = record { command = command; mean = mean; answer = answer }
answers_command words source command ReadFault text mean answer = record { command = command; mean = mean; answer = answer }
answers_command words source command WriteFault text mean answer = never_cut command source text answer
answers_command words source command NoMemory text mean answer = want command source text answer
answers_command words source command BadDossier text mean answer = record { command = command; mean = mean; answer = answer }
answers_command words source command Unfit text mean answer = record { command = command; mean = mean; answer = answer }
answers_command words source command PlanRefused text mean answer = record { command = command; mean = mean; answer = answer }

-- what is answered to the words is answered to a command that they mean
pub meant_answer : (words : List (List ℕ)) (source : Drained) (status : Status) (text : List ℕ) (command : Command) → AnswersMeant words source status text → MeanCommand words command → AnswersCommand command source status text
meant_answer words source status text command meant means = subst (λ c. AnswersCommand c source status text) (sym (meant.mean.only command means)) meant.answer

-- what was answered to the words is want of memory, or answered to the command that they mean
pub by_command : (words : List (List ℕ)) (source : Drained) (command : Command) (status : Status) (text : List ℕ) → MeanCommand words command → RunAnswers words source status text → (status ≡ NoMemory) ⊎ AnswersCommand command source status text
by_command words source command Good text means answer = inr (meant_answer words source Good text command answer means)
by_command words source command Open text means answer = inr (meant_answer words source Open text command answer means)
by_command words source command Words text means answer = absurd (answer.bad command means)
by_command words source command Refused text means answer = inr (meant_answer words source Refused text command answer means)
by_command words source command ReadFault text means answer = inr (meant_answer words source ReadFault text command answer means)
by_command words source command WriteFault text means answer = absurd answer
by_command words source command NoMemory text means answer = inl refl
by_command words source command BadDossier text means answer = inr (meant_answer words source BadDossier text command answer means)
by_command words source command Unfit text means answer = inr (meant_answer words source Unfit text command answer means)
by_command words source command PlanRefused text means answer = inr (meant_answer words source PlanRefused text command answer means)
