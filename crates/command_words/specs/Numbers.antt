-- The numbers that options give: their texts, their ranges and their defaults.
use Rattle.std.specs.Prelude.{◌≡◌, ℕ, ◌≤◌, Bool, length, ◌&&◌, Option, Some, None, nat_lt, nat_le, if◌then◌else◌}
use Rattle.std.specs.List.{list_all}
use Rattle.std.specs.Str.Parse.{digits_value}
use Rattle.lock_model.specs.declared.limits.TheConstants.{CHAMBERS, SHIPS, WORKERS}
use Rattle.command_words.specs.Names.{Text}
use Rattle.command_words.specs.Given.{Given, text_in}
use Rattle.command_words.specs.declared.arguments.Argument.{Argument}
use Rattle.command_words.specs.declared.arguments.Argument.TheVariants.{Nodes, Turns, Workers, Number, Ships, Chambers, From, Now}

abbrev pub is_digit : ℕ → Bool
is_digit c = nat_le 48 c && nat_le c 57

-- one to ten digits, with leading zeros or not
unfoldable pub is_number : Text → Bool
is_number t = nat_lt 0 (length t) && (nat_le (length t) 10 && list_all is_digit t)

abbrev pub lowest : Argument → ℕ
lowest Nodes = 1
lowest Turns = 1
lowest Workers = 1
lowest Number = 0
lowest Ships = 1
lowest Chambers = 1
lowest From = 0
lowest Now = 0
lowest _ = 0

abbrev pub highest : Argument → ℕ
highest Nodes = 1000000
highest Turns = 200000
highest Workers = WORKERS
highest Number = 4294967295
highest Ships = SHIPS
highest Chambers = CHAMBERS
highest From = 1000000
highest Now = 1000000
highest _ = 0

-- the number of an option that is not given; the command that `--from` and `--now` are for always gives one of them
abbrev pub default_of : Argument → ℕ
default_of Nodes = 100000
default_of Turns = 20000
default_of Workers = 2
default_of Number = 1
default_of Ships = 12
default_of Chambers = 2
default_of From = 0
default_of Now = 0
default_of _ = 0

-- the number that a text of digits writes, or the default where there is no text
abbrev pub number_written : ℕ → Option Text → Option ℕ
number_written default (Some t) = if is_number t then Some (digits_value 10 t) else None
number_written default None = Some default

-- the option has this number, which is in its range
pub record IsNumberOf (a : Argument) (given : Given) (n : ℕ) : Type 0 where
  pub written : number_written (default_of a) (text_in a given) ≡ Some n
  pub low : lowest a ≤ n
  pub high : n ≤ highest a
