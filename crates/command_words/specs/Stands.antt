-- The line in the program stands for a line that was read.
use Rattle.std.specs.Prelude.{◌≡◌, ℕ, false, Option, Some, None, length, ⊤}
use Rattle.std.specs.List.{slice_index_or}
use Rattle.command_words.specs.Names.{is_command}
use Rattle.command_words.specs.Given.{is_given}
use Rattle.command_words.specs.WordByWord.{PartialLine as AnyLine, command_given}
use Rattle.command_words.specs.declared.arguments.Argument.{Argument}
use Rattle.command_words.specs.declared.arguments.Argument.TheVariants.{Command, Nodes, Turns, Workers, Dossier, Keep, Number, Ships, Chambers, From, Now}
use Rattle.command_words.specs.declared.partial_line.PartialLine.{PartialLine}

-- where an argument stands in the list of those that were seen
abbrev pub place_of : Argument → ℕ
place_of Command = 0
place_of Nodes = 1
place_of Turns = 2
place_of Workers = 3
place_of Dossier = 4
place_of Keep = 5
place_of Number = 6
place_of Ships = 7
place_of Chambers = 8
place_of From = 9
place_of Now = 10

pub record Stands (line : PartialLine) (l : AnyLine) : Type 0 where
  pub size : length line.seen ≡ 11
  pub seen : (a : Argument) → slice_index_or line.seen (place_of a) false ≡ is_given a l.given
  pub command : line.command ≡ command_given l.given
  pub due : line.due ≡ l.due
  pub is_open : line.is_open ≡ l.is_open
  pub option : (a : Argument) → l.due ≡ Some a → is_command a ≡ false

abbrev pub StepsTo : Option PartialLine → Option AnyLine → Type 0
StepsTo None None = ⊤
StepsTo None (Some l) = ⊥
StepsTo (Some line) None = ⊥
StepsTo (Some line) (Some l) = Stands line l
