-- What `resume` answers to the bytes of an open dossier.
use Rattle.std.proofs.Common.{ℕ, ◌≤◌, List, subst, arith}
use Rattle.lock_model.specs.declared.instance.Instance.{Instance}
use Rattle.lock_model.specs.declared.plan.Plan.{Plan}
use Rattle.lock_rules.specs.Plan.{IsCheapest, cost_of}
use Rattle.book_rules.specs.Book.{best_cost}
use Rattle.certificate_rules.specs.Certificates.{Certificate, Stands}
use Rattle.command_words.specs.declared.commands.SolveOptions.{SolveOptions}
use Rattle.run_answers.specs.Sources.{IsFair}
use Rattle.run_answers.proofs.EndedLemmas.{refused_ended}
use Rattle.run_answers.specs.declared.status.Status.{Status}
use Rattle.run_answers.specs.declared.status.Status.TheVariants.{Good, Open, Words, Refused, ReadFault, WriteFault, NoMemory, BadDossier, Unfit, PlanRefused}
use Rattle.solve_commands.specs.Searching.{Search, Ended}
use Rattle.solve_commands.specs.Keeping.{AnswersOptions}
use Rattle.checked_dossiers.specs.Standing.{IsStanding, IsNoStanding}
use Rattle.resume_command.specs.Resuming.{search_on, ResumesBest, ResumesOpen, AnswersResume}

-- bytes that aren't an open dossier that stands
pub resumes_none : (options : SolveOptions) (bytes : List ℕ) (s : Status) (text : List ℕ) → IsNoStanding bytes s text → AnswersResume options bytes s text
resumes_none options bytes s text none = refused_ended (ResumesBest options bytes text) (ResumesOpen options bytes text) (λ t. IsNoStanding bytes t text) s (λ never. never) (λ never. never) none

-- a cheapest plan costs at most what the certificate's plan costs
cheapest_within : (I : Instance) (C : Certificate) → Stands I C → (P : Plan) → IsCheapest I P → cost_of I P ≤ C.cost
cheapest_within I C stands P cheapest = subst (λ cost. cost_of I P ≤ cost) stands.cost (cheapest.least C.plan stands.legal)

-- the best plan of a search that ended costs at most its limit
ended_within : (k : Search) (e : Ended k) → best_cost e.book ≤ k.limit
ended_within k e =
    let best = e.sound.parts.cheap.best in
    let opening = e.well.opening in
    omega (arith, best, opening)

pub search_resumes : (options : SolveOptions) (bytes : List ℕ) (I : Instance) (C : Certificate) (s : Status) (text : List ℕ) → IsStanding bytes I C → AnswersOptions options (search_on options I C) s text → AnswersResume options bytes s text
search_resumes options bytes I C Good text standing answer = record { instance = I; certificate = C; standing = standing; within = cheapest_within I C standing.stands; best = answer }
search_resumes options bytes I C Open text standing answer = record { instance = I; certificate = C; standing = standing; within = ended_within (search_on options I C); left = answer }
search_resumes options bytes I C Words text standing answer = answer
search_resumes options bytes I C Refused text standing answer = answer
search_resumes options bytes I C ReadFault text standing answer = answer
search_resumes options bytes I C WriteFault text standing answer = answer
search_resumes options bytes I C NoMemory text standing answer = answer
search_resumes options bytes I C BadDossier text standing answer = absurd answer
search_resumes options bytes I C Unfit text standing answer = absurd answer
search_resumes options bytes I C PlanRefused text standing answer = answer

-- `resume` says to bytes neither that words are bad nor that a fault was counted
pub resume_fair : (options : SolveOptions) → IsFair (AnswersResume options)
resume_fair options = record {
  words = λ bytes text says. says;
  read_fault = λ bytes text says. says;
  write_fault = λ bytes text says. says;
  no_memory = λ bytes text says. says;
}
