-- What the words after the program's name ask for.
use Rattle.std.specs.Prelude.{ℕ, ◌+◌, ◌*◌, ◌-◌, List, [], ◌∷◌, length, slice_index_or, Some, None, Bool, ◌&&◌, nat_le, nat_lt, nat_eq}
use Rattle.std.specs.Prelude.{codes, if◌then◌else◌}
use Rattle.std.specs.Result.{result_ok}
use Rattle.std.specs.Str.{bytes_eq}
use Rattle.std.specs.declared.option.Option.{Option}
use Rattle.line_text.specs.Numbers.{number}
use Rattle.picture_page.specs.declared.times.Clock.{Clock}
use Rattle.picture_page.specs.declared.times.Clock.TheVariants.{Minutes, Day}
use Rattle.picture_page.specs.declared.times.Dial.{Dial}
use Rattle.picture_command.specs.declared.asked.TheConstants.{LATEST}

abbrev pub is_digit : ℕ → Bool
is_digit b = nat_le 48 b && nat_le b 57

-- two digits as a number
abbrev pub two_digits : ℕ → ℕ → ℕ
two_digits tens ones = (tens - 48) * 10 + (ones - 48)

-- hours and minutes of a day
abbrev pub clock_of : ℕ → ℕ → Option Clock
clock_of hours minutes = if nat_lt hours 24 && nat_lt minutes 60 then Some (Day (hours * 60 + minutes)) else None

-- a time of day, as HH:MM
abbrev pub byte_at : List ℕ → ℕ → ℕ
byte_at word i = slice_index_or word i 0

abbrev pub is_time : List ℕ → Bool
is_time word =
    ((nat_eq (length word) 5 && nat_eq (byte_at word 2) 58) && (is_digit (byte_at word 0) && is_digit (byte_at word 1)))
    && (is_digit (byte_at word 3) && is_digit (byte_at word 4))

abbrev pub time_in : List ℕ → Option Clock
time_in word =
    if is_time word then (clock_of (two_digits (byte_at word 0) (byte_at word 1)) (two_digits (byte_at word 3) (byte_at word 4))) else None

-- the minute that one to ten digits say
abbrev pub minute_in : List ℕ → Option ℕ
minute_in word = if nat_lt 0 (length word) && nat_le (length word) 10 then (result_ok (number (tt {0}) (tt {0}) 0 LATEST word)) else None

-- the dial of a clock, and of a clock with the minute that it is
abbrev pub dial_with : Option Clock → Option ℕ → Option Dial
dial_with None present = None
dial_with (Some clock) present = Some (record { clock = clock; present = present })

abbrev pub dial_at : Option Clock → Option ℕ → Option Dial
dial_at clock None = None
dial_at clock (Some minute) = dial_with clock (Some minute)

-- `--clock` and a time of day, or `--now` and a minute
abbrev pub one_in : List ℕ → List ℕ → Option Dial
one_in a b =
    if bytes_eq a (codes "--clock") then (dial_with (time_in b) None) else
    (if bytes_eq a (codes "--now") then (dial_at (Some Minutes) (minute_in b)) else None)

-- both of them, each once, in either order
abbrev pub are_words : List ℕ → List ℕ → List ℕ → List ℕ → Bool
are_words a c before behind = bytes_eq a before && bytes_eq c behind

abbrev pub two_in : List ℕ → List ℕ → List ℕ → List ℕ → Option Dial
two_in a b c d =
    if are_words a c (codes "--clock") (codes "--now") then (dial_at (time_in b) (minute_in d)) else
    (if are_words a c (codes "--now") (codes "--clock") then (dial_at (time_in d) (minute_in b)) else None)

-- an option and its text, a second option and the words behind it
abbrev pub second_in : List ℕ → List ℕ → List ℕ → List (List ℕ) → Option Dial
second_in a b c [] = None
second_in a b c (d ∷ []) = two_in a b c d
second_in a b c (d ∷ e ∷ rest) = None

-- an option, its text and the words behind them
abbrev pub options_in : List ℕ → List ℕ → List (List ℕ) → Option Dial
options_in a b [] = one_in a b
options_in a b (c ∷ rest) = second_in a b c rest

-- no more words, or options
abbrev pub dial_in : List (List ℕ) → Option Dial
dial_in [] = dial_with (Some Minutes) None
dial_in (a ∷ []) = None
dial_in (a ∷ b ∷ rest) = options_in a b rest

-- `picture`, and perhaps options
abbrev pub asked_in : List (List ℕ) → Option Dial
asked_in [] = None
asked_in (a ∷ rest) = if bytes_eq a (codes "picture") then (dial_in rest) else None
