-- What is answered to a dossier.
use Rattle.std.proofs.Common.{ℕ, List}
use Rattle.checked_dossiers.specs.Accepted.{IsNotAccepted}
use Rattle.run_answers.specs.Sources.{IsFair}
use Rattle.run_answers.proofs.EndedLemmas.{refused_good}
use Rattle.run_answers.specs.declared.status.Status.{Status}
use Rattle.dossier_commands.specs.Checking.{PrintsAccepted, AnswersCheck}

-- what is answered to bytes that aren't a dossier with an accepted certificate
pub checks_none : (bytes : List ℕ) (s : Status) (text : List ℕ) → IsNotAccepted bytes s text → AnswersCheck bytes s text
checks_none bytes s text none = refused_good (PrintsAccepted bytes text) (λ t. IsNotAccepted bytes t text) s (λ never. never) none

-- `check` says to bytes neither that words are bad nor that a fault was counted
pub check_fair : IsFair AnswersCheck
check_fair = record {
  words = λ bytes text says. says;
  read_fault = λ bytes text says. says;
  write_fault = λ bytes text says. says;
  no_memory = λ bytes text says. says;
}
