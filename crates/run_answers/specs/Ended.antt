-- What is answered by how a command ends: each status spelled out once.
use Rattle.run_answers.specs.declared.status.Status.{Status}
use Rattle.run_answers.specs.declared.status.Status.TheVariants.{Good, Open, Words, Refused, ReadFault, WriteFault, NoMemory, BadDossier, Unfit, PlanRefused}

-- what goes with `Good`, what goes with `Open`, or what is answered where neither can be
abbrev pub IsEndedOr : Type 0 → Type 0 → (Status → Type 0) → Status → Type 0
IsEndedOr Whole Left Refusal Good = Whole
IsEndedOr Whole Left Refusal Open = Left
IsEndedOr Whole Left Refusal Words = Refusal Words
IsEndedOr Whole Left Refusal Refused = Refusal Refused
IsEndedOr Whole Left Refusal ReadFault = Refusal ReadFault
IsEndedOr Whole Left Refusal WriteFault = Refusal WriteFault
IsEndedOr Whole Left Refusal NoMemory = Refusal NoMemory
IsEndedOr Whole Left Refusal BadDossier = Refusal BadDossier
IsEndedOr Whole Left Refusal Unfit = Refusal Unfit
IsEndedOr Whole Left Refusal PlanRefused = Refusal PlanRefused

-- what goes with `Good`, or what is answered where it can't be
abbrev pub IsGoodOr : Type 0 → (Status → Type 0) → Status → Type 0
IsGoodOr Whole Refusal status = IsEndedOr Whole (Refusal Open) Refusal status
