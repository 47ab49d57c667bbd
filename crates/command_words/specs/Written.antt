-- How a command line is written in words.
use Rattle.std.specs.Prelude.{◌≡◌, Bool, true, false, List, [], ◌∷◌, ◌++◌, Option, Some, None, map, codes, ◌==◌, ⊤}
use Rattle.command_words.specs.Names.{Text, name_of, is_flag, is_command}
use Rattle.command_words.specs.Given.{Given}
use Rattle.command_words.specs.Numbers.{is_number}
use Rattle.command_words.specs.declared.arguments.Argument.{Argument}
use Rattle.command_words.specs.declared.arguments.Argument.TheVariants.{Command}

-- one use of an argument before the word `--`
pub data Use : Type 0 where
  -- a word that is no name and no text
  plain : Text → Use
  -- an option and its text in two words, as `--nodes 5`
  apart : Argument → Text → Use
  -- and in one word, as `--nodes=5`
  joined : Argument → Text → Use
  -- a flag, as `--keep`
  flag : Argument → Use

-- an option's name on the command line
abbrev pub hyphens : Text → Text
hyphens t = 45 ∷ 45 ∷ t

-- the words of a use, before the words that follow
abbrev pub written : Use → List Text → List Text
written (plain w) rest = w ∷ rest
written (apart a t) rest = hyphens (name_of a) ∷ t ∷ rest
written (joined a t) rest = hyphens (name_of a ++ 61 ∷ t) ∷ rest
written (flag a) rest = hyphens (name_of a) ∷ rest

abbrev pub all_written : List Use → List Text → List Text
all_written [] rest = rest
all_written (u ∷ us) rest = written u (all_written us rest)

-- nothing, or `--` and the words after it
abbrev pub ending : Option (List Text) → List Text
ending None = []
ending (Some words) = hyphens [] ∷ words

abbrev pub begins_with_hyphen : Text → Bool
begins_with_hyphen [] = false
begins_with_hyphen (c ∷ _) = c == 45

-- an option takes this text: its digits are no word that begins with `-`
pub record TakesText (a : Argument) (t : Text) : Type 0 where
  pub option : is_command a ≡ false
  pub takes : is_flag a ≡ false
  pub digits : is_number t ≡ true

abbrev pub IsProper : Use → Type 0
IsProper (plain w) = begins_with_hyphen w ≡ false
IsProper (apart a t) = TakesText a t
IsProper (joined a t) = TakesText a t
IsProper (flag a) = is_flag a ≡ true

abbrev pub AreProper : List Use → Type 0
AreProper [] = ⊤
AreProper (u ∷ us) = IsProper u × AreProper us

-- a plain word gives the command, and a flag the text `true`
abbrev pub given_by : Use → Argument × Text
given_by (plain w) = (Command, w)
given_by (apart a t) = (a, t)
given_by (joined a t) = (a, t)
given_by (flag a) = (a, codes "true")

abbrev pub given_plainly : List Text → Given
given_plainly words = map (λ w. (Command, w)) words

-- every word after `--` is a plain one
abbrev pub given_after : Option (List Text) → Given
given_after None = []
given_after (Some words) = given_plainly words

-- the words write these arguments with their texts
pub record IsWritten (words : List Text) (given : Given) : Type 0 where
  pub uses : List Use
  pub after : Option (List Text)
  pub proper : AreProper uses
  pub words_are : words ≡ all_written uses (ending after)
  pub given_is : given ≡ map given_by uses ++ given_after after
