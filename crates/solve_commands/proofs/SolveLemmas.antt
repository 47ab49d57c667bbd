-- What is answered to an instance, and to the bytes that mean it.
use Rattle.std.proofs.Common.{ℕ, ◌≡◌, List}
use Rattle.lock_model.specs.declared.instance.Instance.{Instance}
use Rattle.instance_text.specs.Reading.{Means}
use Rattle.command_words.specs.declared.commands.SolveOptions.{SolveOptions}
use Rattle.run_answers.specs.Sources.{IsFair}
use Rattle.run_answers.specs.declared.status.Status.{Status}
use Rattle.run_answers.specs.declared.status.Status.TheVariants.{Good, Open, Words, Refused, ReadFault, WriteFault, NoMemory, BadDossier, Unfit, PlanRefused}
use Rattle.solve_commands.specs.Keeping.{AnswersOptions}
use Rattle.solve_commands.specs.Solving.{search_of, AnswersInstance, AnswersSolve}

-- what is answered at the end of a search is answered to the instance
pub search_answers : (options : SolveOptions) (I : Instance) (status : Status) (text : List ℕ) → AnswersOptions options (search_of options.nodes options.turns I) status text → AnswersInstance options I status text
search_answers options I Good text answer = answer
search_answers options I Open text answer = answer
search_answers options I Words text answer = absurd answer
search_answers options I Refused text answer = absurd answer
search_answers options I ReadFault text answer = absurd answer
search_answers options I WriteFault text answer = absurd answer
search_answers options I NoMemory text answer = answer
search_answers options I BadDossier text answer = absurd answer
search_answers options I Unfit text answer = absurd answer
search_answers options I PlanRefused text answer = absurd answer

-- what is answered to an instance is answered to the bytes that mean it
pub answers_meant : (options : SolveOptions) (I : Instance) (bytes : List ℕ) (status : Status) (text : List ℕ) → Means bytes I → AnswersInstance options I status text → AnswersSolve options bytes status text
answers_meant options I bytes Good text means answer = record { instance = I; means = means; answer = answer }
answers_meant options I bytes Open text means answer = record { instance = I; means = means; answer = answer }
answers_meant options I bytes Words text means answer = answer
answers_meant options I bytes Refused text means answer = absurd answer
answers_meant options I bytes ReadFault text means answer = answer
answers_meant options I bytes WriteFault text means answer = answer
answers_meant options I bytes NoMemory text means answer = answer
answers_meant options I bytes BadDossier text means answer = absurd answer
answers_meant options I bytes Unfit text means answer = record { instance = I; means = means; answer = answer }
answers_meant options I bytes PlanRefused text means answer = absurd answer

-- `solve` says to bytes neither that words are bad nor that a fault was counted
pub solve_fair : (options : SolveOptions) → IsFair (AnswersSolve options)
solve_fair options = record {
  words = λ bytes text says. says;
  read_fault = λ bytes text says. says;
  write_fault = λ bytes text says. says;
  no_memory = λ bytes text says. says;
}
