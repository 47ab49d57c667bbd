-- What `solve` answers to an instance, and to the bytes of a text: a status and what is written.
use Rattle.std.specs.Prelude.{ℕ, ◌≡◌, List}
use Rattle.lock_model.specs.declared.instance.Instance.{Instance}
use Rattle.lock_rules.specs.Singles.{singles_of}
use Rattle.instance_text.specs.Reading.{Means}
use Rattle.command_words.specs.declared.commands.SolveOptions.{SolveOptions}
use Rattle.run_answers.specs.Refusals.{IsDefect, IsUnfitShip}
use Rattle.run_answers.specs.Texts.{no_memory_text}
use Rattle.run_answers.specs.declared.status.Status.{Status}
use Rattle.run_answers.specs.declared.status.Status.TheVariants.{Good, Open, Words, Refused, ReadFault, WriteFault, NoMemory, BadDossier, Unfit, PlanRefused}
use Rattle.solve_commands.specs.Searching.{Search, PrintsBest}
use Rattle.solve_commands.specs.Keeping.{PrintsLeft}

-- the most bytes that `solve` reads
abbrev pub solve_limit : ℕ
solve_limit = 65536

-- the search of an instance, which begins with a plan that costs at most as much as serving each ship alone
abbrev pub search_of : ℕ → ℕ → Instance → Search
search_of nodes turns I = record { instance = I; nodes = nodes; turns = turns; limit = singles_of I }

-- what is answered to an instance
abbrev pub AnswersInstance : SolveOptions → Instance → Status → List ℕ → Type 0
AnswersInstance options I Good text = PrintsBest options.dossier I text
AnswersInstance options I Open text = PrintsLeft options.keep (search_of options.nodes options.turns I) text
AnswersInstance options I Words text = ⊥
AnswersInstance options I Refused text = ⊥
AnswersInstance options I ReadFault text = ⊥
AnswersInstance options I WriteFault text = ⊥
AnswersInstance options I NoMemory text = text ≡ no_memory_text
AnswersInstance options I BadDossier text = ⊥
AnswersInstance options I Unfit text = IsUnfitShip I text
AnswersInstance options I PlanRefused text = ⊥

-- the bytes mean an instance, and this is answered to it
pub record AnswersMeant (options : SolveOptions) (bytes : List ℕ) (status : Status) (text : List ℕ) : Type 0 where
  pub instance : Instance
  pub means : Means bytes instance
  pub answer : AnswersInstance options instance status text

-- what is answered to the bytes of a text
abbrev pub AnswersSolve : SolveOptions → List ℕ → Status → List ℕ → Type 0
AnswersSolve options bytes Good text = AnswersMeant options bytes Good text
AnswersSolve options bytes Open text = AnswersMeant options bytes Open text
AnswersSolve options bytes Words text = ⊥
AnswersSolve options bytes Refused text = IsDefect bytes text
AnswersSolve options bytes ReadFault text = ⊥
AnswersSolve options bytes WriteFault text = ⊥
AnswersSolve options bytes NoMemory text = text ≡ no_memory_text
AnswersSolve options bytes BadDossier text = ⊥
AnswersSolve options bytes Unfit text = AnswersMeant options bytes Unfit text
AnswersSolve options bytes PlanRefused text = ⊥
