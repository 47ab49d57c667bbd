-- The same words read one after the other, as the crate does it: what is accepted here are the good words.
use Rattle.std.specs.Prelude.{ℕ, Bool, true, false, not, List, [], ◌∷◌, ◌++◌, ◌==◌, ◌&&◌, ◌||◌, Option, Some, None, codes, if◌then◌else◌, option_and_then, is_some}
use Rattle.std.specs.List.{list_all, list_any, before_first, after_first}
use Rattle.std.specs.Option.{option_map_or}
use Rattle.command_words.specs.Names.{Text, options, option_named, command_named, is_flag, is_for, needs_minute}
use Rattle.command_words.specs.Given.{Given, is_given, text_in}
use Rattle.command_words.specs.Numbers.{is_number}
use Rattle.command_words.specs.declared.arguments.Argument.{Argument}
use Rattle.command_words.specs.declared.arguments.Argument.TheVariants.{Command, From, Now}
use Rattle.command_words.specs.declared.command_names.CommandName.{CommandName}

-- what the words so far gave, the option that waits for its text, and whether no `--` has come
pub record PartialLine : Type 0 where
  pub given : Given
  pub due : Option Argument
  pub is_open : Bool

abbrev pub start : PartialLine
start = record { given = []; due = None; is_open = true }

-- the argument gets a text, once
unfoldable pub filled : Argument → Text → PartialLine → Option PartialLine
filled a t line = if is_given a line.given then None else Some (record line { given = line.given ++ (a, t) ∷ []; due = None })

-- an option gets its text
unfoldable pub with_text : Argument → Text → PartialLine → Option PartialLine
with_text a t line = if is_number t then filled a t line else None

-- what stands behind a first byte c
abbrev pub behind : ℕ → Text → Option Text
behind c [] = None
behind c (x ∷ xs) = if x == c then Some xs else None

abbrev pub is_equals : ℕ → Bool
is_equals c = c == 61

abbrev pub name_part : Text → Text
name_part t = before_first is_equals t

abbrev pub text_part : Text → Option Text
text_part t = if list_any is_equals t then Some (after_first is_equals t) else None

-- the name of an option, alone or with its text
unfoldable pub named : Argument → Option Text → PartialLine → Option PartialLine
named a (Some t) line = if is_flag a then None else with_text a t line
named a None line = if is_flag a then filled a (codes "true") line else Some (record line { due = Some a })

unfoldable pub option_word : Text → PartialLine → Option PartialLine
option_word t line = option_and_then (λ a. named a (text_part t) line) (option_named (name_part t))

-- what stands behind `--`
abbrev pub two_hyphens : Text → PartialLine → Option PartialLine
two_hyphens [] line = Some (record line { is_open = false })
two_hyphens (x ∷ xs) line = option_word (x ∷ xs) line

abbrev pub one_hyphen : Option Text → PartialLine → Option PartialLine
one_hyphen None line = None
one_hyphen (Some t) line = two_hyphens t line

abbrev pub plain_or_hyphen : Text → Option Text → PartialLine → Option PartialLine
plain_or_hyphen w None line = filled Command w line
plain_or_hyphen w (Some t) line = one_hyphen (behind 45 t) line

-- a word before `--`
abbrev pub open_word : Option Argument → Text → PartialLine → Option PartialLine
open_word (Some a) w line = with_text a w line
open_word None w line = plain_or_hyphen w (behind 45 w) line

unfoldable pub read_word : Text → PartialLine → Option PartialLine
read_word w line = if line.is_open then open_word line.due w line else filled Command w line

unfoldable pub read_words : List Text → PartialLine → Option PartialLine
read_words [] line = Some line
read_words (w ∷ ws) line = option_and_then (read_words ws) (read_word w line)

-- the command that was given, if it is one
abbrev pub command_given : Given → Option CommandName
command_given given = option_and_then command_named (text_in Command given)

-- just one of the two options that give a minute is there
abbrev pub has_minute : Given → Bool
has_minute given = if is_given From given then not (is_given Now given) else is_given Now given

-- each option that was given is for the command, which has what it needs
abbrev pub is_whole_for : Given → CommandName → Bool
is_whole_for given c = list_all (λ a. not (is_given a given) || is_for c a) options && (not (needs_minute c) || has_minute given)

unfoldable pub is_whole : PartialLine → Bool
is_whole line = not (is_some line.due) && option_map_or (is_whole_for line.given) (command_given line.given) false

unfoldable pub is_good : List Text → Bool
is_good words = option_map_or is_whole (read_words words start) false

-- what good words gave
unfoldable pub given_of : List Text → Given
given_of words = option_map_or (λ line. line.given) (read_words words start) []
