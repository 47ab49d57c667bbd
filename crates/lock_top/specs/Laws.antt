-- What a run on `check` answers to what a run on `solve --dossier` wrote.
use Rattle.std.specs.Prelude.{ℕ, ◌≡◌, ◌≤◌, ◌++◌, List, length, Some}
use Rattle.command_words.specs.declared.commands.Command.TheVariants.{Check}
use Rattle.lock_io.specs.Faults.{Rose}
use Rattle.run_answers.specs.Sources.{Drained}
use Rattle.run_answers.specs.Texts.{no_memory_text}
use Rattle.run_answers.specs.declared.status.Status.{Status}
use Rattle.run_answers.specs.declared.status.Status.TheVariants.{Good, Open, Words, Refused, ReadFault, WriteFault, NoMemory, BadDossier, Unfit, PlanRefused}
use Rattle.checked_dossiers.specs.Refused.{dossier_limit}
use Rattle.dossier_commands.specs.DossierTexts.{accepted_text}
use Rattle.lock_top.specs.Asked.{Asks}
use Rattle.lock_top.specs.Runs.{Filled, Run, Got}
use Rattle.lock_top.specs.Clauses.{Did, IsCertified, KeepsItsWord}

-- The source has left just the bytes that a sink got, which are at most `dossier_limit`.
pub record IsHandedOn (sink : Filled) (source : Drained) : Type 0 where
  pub old : List ℕ
  pub bytes : List ℕ
  pub before : sink.held ≡ Some old
  pub after : sink.held_after ≡ Some (old ++ bytes)
  pub told : source.before ≡ Some bytes
  pub few : length bytes ≤ dossier_limit

-- how a run may end that is bound to accept: it says so with the cost, or memory was wanting, or the source or the sink counted a fault
abbrev pub EndsAccepted : ℕ → Run → Status → Type 0
EndsAccepted cost run Good = Got run (accepted_text cost)
EndsAccepted cost run Open = ⊥
EndsAccepted cost run Words = ⊥
EndsAccepted cost run Refused = ⊥
EndsAccepted cost run ReadFault = Rose run.source.faults run.source.faults_after
EndsAccepted cost run WriteFault = Rose run.sink.faults run.sink.faults_after
EndsAccepted cost run NoMemory = Got run no_memory_text
EndsAccepted cost run BadDossier = ⊥
EndsAccepted cost run Unfit = ⊥
EndsAccepted cost run PlanRefused = ⊥

-- `check` accepts each dossier that `solve --dossier` wrote, with the cost of its plan, whatever else the two runs were given.
pub record DossiersAreAccepted : Type 0 where
  pub accepted : (first : Run) (certified : Did IsCertified first) (later : Run)
      → IsHandedOn first.sink later.source → Asks later.words Check → KeepsItsWord later
      → EndsAccepted certified.says.certificate.cost later later.status
