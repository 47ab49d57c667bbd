-- The numbers of the statuses.
use Rattle.std.specs.Prelude.{ℕ}
use Rattle.run_answers.specs.declared.status.Status.{Status}
use Rattle.run_answers.specs.declared.status.Status.TheVariants.{Good, Open, Words, Refused, ReadFault, WriteFault, NoMemory, BadDossier, Unfit, PlanRefused}

abbrev pub code_of : Status → ℕ
code_of Good = 0
code_of Open = 1
code_of Words = 2
code_of Refused = 3
code_of ReadFault = 4
code_of WriteFault = 5
code_of NoMemory = 6
code_of BadDossier = 7
code_of Unfit = 8
code_of PlanRefused = 10
