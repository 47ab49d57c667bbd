-- What a command line gives: arguments with their texts, in the order of the words.
use Rattle.std.specs.Prelude.{ℕ, ◌+◌, Bool, List, [], ◌∷◌, Option, find, if◌then◌else◌, option_map}
use Rattle.std.specs.List.{list_any}
use Rattle.std.specs.Str.{bytes_eq}
use Rattle.command_words.specs.Names.{Text, name_of}
use Rattle.command_words.specs.declared.arguments.Argument.{Argument}

abbrev pub Given : Type 0
Given = List (Argument × Text)

abbrev pub is_in : Argument → Argument × Text → Bool
is_in a g = bytes_eq (name_of g.0) (name_of a)

abbrev pub is_given : Argument → Given → Bool
is_given a given = list_any (is_in a) given

-- the first text that an argument is given
abbrev pub text_in : Argument → Given → Option Text
text_in a given = option_map (λ g. g.1) (find (is_in a) given)

-- how many times an argument is given
abbrev pub times : Argument → Given → ℕ
times a [] = 0
times a (g ∷ gs) = (if is_in a g then 1 else 0) + times a gs
