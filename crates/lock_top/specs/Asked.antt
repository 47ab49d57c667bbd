-- What the words ask for.
use Rattle.std.specs.Prelude.{ℕ, ◌≡◌, List, ⊤}
use Rattle.command_words.specs.Meaning.{MeanCommand}
use Rattle.command_words.specs.declared.commands.Command.{Command}
use Rattle.command_words.specs.declared.commands.Command.TheVariants.{Solve, Check, Lot, Trial, Judge, Play, Replan, Lower, Resume}
use Rattle.solve_commands.specs.Options.{AreSolveNumbers, AreLotNumbers, AreTrialNumbers}
use Rattle.replan_command.specs.Options.{AreReplanNumbers}

-- the words ask for this command, with these options
pub record Asks (words : List (List ℕ)) (command : Command) : Type 0 where
  pub means : MeanCommand words command

-- the words mean this command and no other
pub record MeanOnly (words : List (List ℕ)) (command : Command) : Type 0 where
  pub means : MeanCommand words command
  pub only : (other : Command) → MeanCommand words other → other ≡ command

-- the numbers of a command are in their ranges
abbrev pub HasNumbers : Command → Type 0
HasNumbers (Solve options) = AreSolveNumbers options
HasNumbers Check = ⊤
HasNumbers (Lot options) = AreLotNumbers options
HasNumbers (Trial options) = AreTrialNumbers options
HasNumbers Judge = ⊤
HasNumbers Play = ⊤
HasNumbers (Replan options) = AreReplanNumbers options
HasNumbers Lower = ⊤
HasNumbers (Resume options) = AreSolveNumbers options
