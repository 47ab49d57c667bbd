-- The simple command of `clap` that takes the words.
use Rattle.std.specs.Prelude.{◌≡◌, true, List, [], ◌∷◌, ◌++◌, Some, None, map, codes, if◌then◌else◌}
use Rattle.clap.specs.Walk.{Row}
use Rattle.clap.specs.declared.parser.matches.ArgMatches.{ArgMatches}
use Rattle.clap.specs.declared.parser.matches.ValueSource.TheVariants.{DefaultValue, CommandLine}
use Rattle.clap.specs.declared.builder.value_parser.Reading.TheVariants as reading
use Rattle.command_words.specs.Given.{Given, is_given}
use Rattle.clap.specs.Words.{App, Rule, new_rule, new_app, rows_of, found_of}
use Rattle.clap.specs.Simple.{on_top, with_rule}
use Rattle.clap.specs.declared.builder.action.ArgAction.TheVariants.{SetTrue}
use Rattle.command_words.specs.Names.{Text, name_of, is_flag}
use Rattle.command_words.specs.declared.arguments.Argument.{Argument}
use Rattle.command_words.specs.declared.arguments.Argument.TheVariants.{Command, Nodes, Turns, Workers, Dossier, Keep, Number, Ships, Chambers, From, Now}

abbrev pub command_rule : Text → Rule
command_rule name = record (new_rule name) { required = true }

abbrev pub option_rule : Text → Rule
option_rule name = record (new_rule name) { long = Some name }

abbrev pub flag_rule : Text → Rule
flag_rule name = record (new_rule name) { long = Some name; action = Some SetTrue }

-- an option, which may be a flag
abbrev pub named_rule : Argument → Rule
named_rule a = if is_flag a then flag_rule (name_of a) else option_rule (name_of a)

abbrev pub rule_for : Argument → Rule
rule_for Command = command_rule (name_of Command)
rule_for Dossier = flag_rule (name_of Dossier)
rule_for Keep = flag_rule (name_of Keep)
rule_for a = option_rule (name_of a)

abbrev pub arguments : List Argument
arguments = Command ∷ Nodes ∷ Turns ∷ Workers ∷ Dossier ∷ Keep ∷ Number ∷ Ships ∷ Chambers ∷ From ∷ Now ∷ []

-- a parser and options after its own arguments
abbrev pub with_all : App → List Argument → App
with_all app [] = app
with_all app (a ∷ more) = with_all (with_rule app (named_rule a)) more

-- no argument yet, no program's name before the words, and no help
abbrev pub bare_parser : App
bare_parser = on_top (λ shape. record shape { no_binary_name = true; disable_help_flag = true }) (new_app (codes "command"))

unfoldable pub parser : App
parser = on_top (λ shape. record shape { rules = map rule_for arguments }) bare_parser

-- ---- what the parser finds

-- a flag's text is always the same
abbrev pub value_of : Argument × Text → Text
value_of g = if is_flag g.0 then codes "true" else g.1

abbrev pub row_for : Argument × Text → Row
row_for g = record { id = name_of g.0; values = value_of g ∷ []; count = None; source = Some CommandLine; reading = reading.AsWritten }

abbrev pub rows_for : Given → List Row
rows_for given = map row_for given

abbrev pub default_row : Argument → Row
default_row a = record { id = name_of a; values = codes "false" ∷ []; count = None; source = Some DefaultValue; reading = reading.AsWritten }

abbrev pub default_for : Argument → Given → List Row
default_for a given = if is_given a given then [] else default_row a ∷ []

-- the rows of all that was given, and of the flags that were not
abbrev pub all_rows : Given → List Row
all_rows given = rows_for given ++ (default_for Dossier given ++ default_for Keep given)

-- the parser found what the words gave
abbrev pub Finds : ArgMatches → Given → Type 0
Finds matches given = rows_of (found_of matches) ≡ all_rows given
