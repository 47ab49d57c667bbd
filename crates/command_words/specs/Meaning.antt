-- Which words are good, and which command they mean.
use Rattle.std.specs.Prelude.{◌≡◌, ◌≤◌, true, false, not, List, Some, ⊤}
use Rattle.command_words.specs.Names.{Text, word_of, is_for, needs_minute}
use Rattle.command_words.specs.Given.{Given, is_given, text_in, times}
use Rattle.command_words.specs.Written.{IsWritten}
use Rattle.command_words.specs.Numbers.{IsNumberOf}
use Rattle.command_words.specs.declared.arguments.Argument.{Argument}
use Rattle.command_words.specs.declared.arguments.Argument.TheVariants as argument
use Rattle.command_words.specs.declared.command_names.CommandName.{CommandName}
use Rattle.command_words.specs.declared.command_names.CommandName.TheVariants as named
use Rattle.command_words.specs.declared.commands.Command.{Command}
use Rattle.command_words.specs.declared.commands.Command.TheVariants.{Solve, Check, Lot, Trial, Judge, Play, Replan, Lower, Resume}
use Rattle.command_words.specs.declared.commands.SolveOptions.{SolveOptions}
use Rattle.command_words.specs.declared.commands.LotOptions.{LotOptions}
use Rattle.command_words.specs.declared.commands.TrialOptions.{TrialOptions}
use Rattle.command_words.specs.declared.commands.ReplanOptions.{ReplanOptions}
use Rattle.command_words.specs.declared.commands.DayRest.{DayRest}
use Rattle.command_words.specs.declared.commands.DayRest.TheVariants.{Known, Lived}

-- the words are good, but for the ranges of their numbers
pub record IsGood (words : List Text) : Type 0 where
  pub given : Given
  pub written : IsWritten words given
  -- no argument is given twice, the command word neither
  pub once : (a : Argument) → times a given ≤ 1
  pub command : CommandName
  pub word : text_in argument.Command given ≡ Some (word_of command)
  pub suits : (a : Argument) → is_given a given ≡ true → is_for command a ≡ true
  pub needs : needs_minute command ≡ true → is_given argument.From given ≡ not (is_given argument.Now given)

-- ---- what each command's options are

pub record GivesSolve (options : SolveOptions) (given : Given) : Type 0 where
  pub nodes : IsNumberOf argument.Nodes given options.nodes
  pub turns : IsNumberOf argument.Turns given options.turns
  pub workers : IsNumberOf argument.Workers given options.workers
  pub dossier : options.dossier ≡ is_given argument.Dossier given
  pub keep : options.keep ≡ is_given argument.Keep given

pub record GivesLot (options : LotOptions) (given : Given) : Type 0 where
  pub number : IsNumberOf argument.Number given options.number
  pub ships : IsNumberOf argument.Ships given options.ships
  pub chambers : IsNumberOf argument.Chambers given options.chambers

pub record GivesTrial (options : TrialOptions) (given : Given) : Type 0 where
  pub lot : GivesLot options.lot given
  pub nodes : IsNumberOf argument.Nodes given options.nodes
  pub turns : IsNumberOf argument.Turns given options.turns

-- the rest whose minute is given
abbrev pub GivesRest : DayRest → Given → Type 0
GivesRest (Known minute) given = (is_given argument.Now given ≡ false) × IsNumberOf argument.From given minute
GivesRest (Lived minute) given = (is_given argument.Now given ≡ true) × IsNumberOf argument.Now given minute

pub record GivesReplan (options : ReplanOptions) (given : Given) : Type 0 where
  pub nodes : IsNumberOf argument.Nodes given options.nodes
  pub turns : IsNumberOf argument.Turns given options.turns
  pub workers : IsNumberOf argument.Workers given options.workers
  pub dossier : options.dossier ≡ is_given argument.Dossier given
  pub rest : GivesRest options.rest given

abbrev pub GivesOptions : Command → Given → Type 0
GivesOptions (Solve options) given = GivesSolve options given
GivesOptions Check given = ⊤
GivesOptions (Lot options) given = GivesLot options given
GivesOptions (Trial options) given = GivesTrial options given
GivesOptions Judge given = ⊤
GivesOptions Play given = ⊤
GivesOptions (Replan options) given = GivesReplan options given
GivesOptions Lower given = ⊤
GivesOptions (Resume options) given = GivesSolve options given

abbrev pub name_of_command : Command → CommandName
name_of_command (Solve _) = named.Solve
name_of_command Check = named.Check
name_of_command (Lot _) = named.Lot
name_of_command (Trial _) = named.Trial
name_of_command Judge = named.Judge
name_of_command Play = named.Play
name_of_command (Replan _) = named.Replan
name_of_command Lower = named.Lower
name_of_command (Resume _) = named.Resume

-- the arguments give this command
pub record Gives (given : Given) (command : Command) : Type 0 where
  pub word : text_in argument.Command given ≡ Some (word_of (name_of_command command))
  pub options : GivesOptions command given

-- the words are good, and each number of the command is in its range
pub record MeanCommand (words : List Text) (command : Command) : Type 0 where
  pub good : IsGood words
  pub gives : Gives good.given command

-- the words mean no command
abbrev pub AreBad : List Text → Type 0
AreBad words = (command : Command) → ¬ MeanCommand words command
