-- The commands and the options of the command line, and which option is for which command.
use Rattle.std.specs.Prelude.{ℕ, Bool, true, false, List, [], ◌∷◌, Option, codes, find}
use Rattle.std.specs.Str.{bytes_eq}
use Rattle.command_words.specs.declared.arguments.Argument.{Argument}
use Rattle.command_words.specs.declared.arguments.Argument.TheVariants.{Command, Nodes, Turns, Workers, Dossier, Keep, Number, Ships, Chambers, From, Now}
use Rattle.command_words.specs.declared.command_names.CommandName.{CommandName}
use Rattle.command_words.specs.declared.command_names.CommandName.TheVariants.{Solve, Check, Lot, Trial, Judge, Play, Replan, Lower, Resume}

-- the bytes of a word
abbrev pub Text : Type 0
Text = List ℕ

unfoldable pub word_of : CommandName → Text
word_of Solve = codes "solve"
word_of Check = codes "check"
word_of Lot = codes "lot"
word_of Trial = codes "trial"
word_of Judge = codes "judge"
word_of Play = codes "play"
word_of Replan = codes "replan"
word_of Lower = codes "lower"
word_of Resume = codes "resume"

-- an option's name, without the hyphens before it
unfoldable pub name_of : Argument → Text
name_of Command = codes "command"
name_of Nodes = codes "nodes"
name_of Turns = codes "turns"
name_of Workers = codes "workers"
name_of Dossier = codes "dossier"
name_of Keep = codes "keep"
name_of Number = codes "number"
name_of Ships = codes "ships"
name_of Chambers = codes "chambers"
name_of From = codes "from"
name_of Now = codes "now"

abbrev pub command_names : List CommandName
command_names = Solve ∷ Check ∷ Lot ∷ Trial ∷ Judge ∷ Play ∷ Replan ∷ Lower ∷ Resume ∷ []

abbrev pub options : List Argument
options = Nodes ∷ Turns ∷ Workers ∷ Dossier ∷ Keep ∷ Number ∷ Ships ∷ Chambers ∷ From ∷ Now ∷ []

unfoldable pub command_named : Text → Option CommandName
command_named text = find (λ c. bytes_eq (word_of c) text) command_names

-- the option with this name, a flag too
unfoldable pub option_named : Text → Option Argument
option_named text = find (λ a. bytes_eq (name_of a) text) options

-- an option that takes no text
abbrev pub is_flag : Argument → Bool
is_flag Dossier = true
is_flag Keep = true
is_flag _ = false

-- the command word, which has no name on the command line
abbrev pub is_command : Argument → Bool
is_command Command = true
is_command _ = false

-- the argument is for the command
abbrev pub is_for : CommandName → Argument → Bool
is_for _ Command = true
is_for Solve Nodes = true
is_for Solve Turns = true
is_for Solve Workers = true
is_for Solve Dossier = true
is_for Solve Keep = true
is_for Trial Nodes = true
is_for Trial Turns = true
is_for Trial Number = true
is_for Trial Ships = true
is_for Trial Chambers = true
is_for Replan Nodes = true
is_for Replan Turns = true
is_for Replan Workers = true
is_for Replan Dossier = true
is_for Replan From = true
is_for Replan Now = true
is_for Resume Nodes = true
is_for Resume Turns = true
is_for Resume Workers = true
is_for Resume Dossier = true
is_for Resume Keep = true
is_for Lot Number = true
is_for Lot Ships = true
is_for Lot Chambers = true
is_for _ _ = false

-- the command needs a minute
abbrev pub needs_minute : CommandName → Bool
needs_minute Replan = true
needs_minute _ = false
