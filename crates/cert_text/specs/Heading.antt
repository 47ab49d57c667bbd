-- The line between an instance and its certificate.
use Rattle.std.specs.Prelude.{ℕ, ◌==◌, List, length, Option, None, Some, Result, Ok, Err, option_map, codes, if◌then◌else◌}
use Rattle.std.specs.Str.{bytes_eq}
use Rattle.std.specs.List.{join_with_byte}
use Rattle.line_text.specs.Filled.{Filled, first_line}
use Rattle.line_text.specs.Lines.{lines, words, word_at}
use Rattle.cert_text.specs.declared.heading.Version.TheVariants.{First, Second, Third, Fourth}
use Rattle.cert_text.specs.declared.heading.Heading.{Heading}
use Rattle.cert_text.specs.declared.heading.Heading.TheVariants.{Whole, Open}

-- what a second word says, where it is the last one
abbrev pub second_word : List ℕ → Option Heading
second_word word =
    if bytes_eq word (codes "2") then Some (Whole Second)
    else (if bytes_eq word (codes "3") then Some (Whole Third)
    else (if bytes_eq word (codes "4") then Some (Whole Fourth) else (if bytes_eq word (codes "open") then Some (Open Second) else None)))

-- what a third word says behind `open`
abbrev pub open_word : List ℕ → Option Heading
open_word word = if bytes_eq word (codes "3") then Some (Open Third) else (if bytes_eq word (codes "4") then Some (Open Fourth) else None)

-- what a second and a third word say
abbrev pub third_word : List ℕ → List ℕ → Option Heading
third_word second third = if bytes_eq second (codes "open") then open_word third else None

-- `certificate`, or with `2`, `3`, `4`, `open`, `open 3` or `open 4` behind it
unfoldable pub heading_of : List (List ℕ) → Option Heading
heading_of words =
    if bytes_eq (word_at words 0) (codes "certificate")
    then (if length words == 1 then Some (Whole First)
    else (if length words == 2 then second_word (word_at words 1)
    else (if length words == 3 then third_word (word_at words 1) (word_at words 2) else None)))
    else None

-- the heading that the first line with words is, and all bytes after that line
abbrev pub with_rest : Result (Filled (List ℕ)) ℕ → Option (Heading × List ℕ)
with_rest (Ok filled) = option_map (λ h. (h, join_with_byte 10 filled.more)) (heading_of (words filled.line))
with_rest (Err n) = None

-- the heading of a text, and all bytes after the heading's line
unfoldable pub headed : List ℕ → Option (Heading × List ℕ)
headed text = with_rest (first_line 0 (lines text))
