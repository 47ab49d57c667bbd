-- What `resume` answers to the bytes of an open dossier: a status and what is written.
use Rattle.std.specs.Prelude.{ℕ, ◌+◌, ◌≤◌, List, min}
use Rattle.lock_model.specs.declared.instance.Instance.{Instance}
use Rattle.lock_model.specs.declared.plan.Plan.{Plan}
use Rattle.lock_rules.specs.Plan.{IsCheapest, cost_of}
use Rattle.book_rules.specs.Book.{Case, best_cost}
use Rattle.certificate_rules.specs.Certificates.{Certificate}
use Rattle.command_words.specs.declared.commands.SolveOptions.{SolveOptions}
use Rattle.resume_command.specs.Prior.{prior_of}
use Rattle.run_answers.specs.Ended.{IsEndedOr}
use Rattle.run_answers.specs.declared.status.Status.{Status}
use Rattle.solve_commands.specs.Searching.{Search, Ended, PrintsBest}
use Rattle.solve_commands.specs.Keeping.{PrintsLeft}
use Rattle.checked_dossiers.specs.Standing.{IsStanding, IsNoStanding}

-- how many nodes a search may use that goes on from a certificate: those of its marks that are neither bounds nor open leaves, and the given ones, but at most 1,000,000
abbrev pub budget_of : Certificate → ℕ → ℕ
budget_of C given = min (prior_of C.tree + given) 1000000

-- the search that goes on from a certificate, and begins with its plan
abbrev pub search_on : SolveOptions → Instance → Certificate → Search
search_on options I C = record { instance = I; nodes = budget_of C options.nodes; turns = options.turns; limit = C.cost }

-- the search of a case, from a plan that costs at most so much
abbrev pub search_for : Case → ℕ → Search
search_for case limit = record { instance = case.instance; nodes = case.nodes; turns = case.turns; limit = limit }

-- The certificate stands, and what is printed of a cheapest plan is printed, which costs at most the certificate's cost.
pub record ResumesBest (options : SolveOptions) (bytes text : List ℕ) : Type 0 where
  pub instance : Instance
  pub certificate : Certificate
  pub standing : IsStanding bytes instance certificate
  pub within : (P : Plan) → IsCheapest instance P → cost_of instance P ≤ certificate.cost
  pub best : PrintsBest options.dossier instance text

-- The certificate stands, and what a search of it left open is printed. Its best plan costs at most the certificate's cost, as that of any search that ended so.
pub record ResumesOpen (options : SolveOptions) (bytes text : List ℕ) : Type 0 where
  pub instance : Instance
  pub certificate : Certificate
  pub standing : IsStanding bytes instance certificate
  pub within : (ended : Ended (search_on options instance certificate)) → best_cost ended.book ≤ certificate.cost
  pub left : PrintsLeft options.keep (search_on options instance certificate) text

-- what is answered to the bytes of an open dossier
abbrev pub AnswersResume : SolveOptions → List ℕ → Status → List ℕ → Type 0
AnswersResume options bytes status text = IsEndedOr (ResumesBest options bytes text) (ResumesOpen options bytes text) (λ s. IsNoStanding bytes s text) status
