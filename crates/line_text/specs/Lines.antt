-- The lines of a text, and the words of a line.
use Rattle.std.specs.Prelude.{ℕ, ◌==◌, ◌&&◌, ◌||◌, Bool, true, false, List, [], ◌∷◌, length, take, filter, slice_index_or}
use Rattle.std.specs.List.{slice_split, before_first}
use Rattle.std.specs.Str.{bytes_eq}
use Rattle.std.specs.Str.Lines.{strip_carriage_return}
use Rattle.std.specs.Str.Lossy.{utf8_valid_len}

-- the bytes between line feeds, and those after the last one
abbrev pub is_line_feed : ℕ → Bool
is_line_feed b = b == 10

unfoldable pub lines : List ℕ → List (List ℕ)
lines text = slice_split is_line_feed text

-- `#` begins a comment
abbrev pub is_hash : ℕ → Bool
is_hash b = b == 35

-- a line without the one carriage return that may end it, and without its comment
unfoldable pub content : List ℕ → List ℕ
content line = before_first is_hash (strip_carriage_return line)

-- a space or a tab
abbrev pub is_blank : ℕ → Bool
is_blank b = b == 32 || b == 9

abbrev pub is_word : List ℕ → Bool
is_word [] = false
is_word (b ∷ bs) = true

-- the pieces between spaces and tabs that are not empty
unfoldable pub words : List ℕ → List (List ℕ)
words line = filter is_word (slice_split is_blank (content line))

-- word i of a line, from 0
abbrev pub word_at : List (List ℕ) → ℕ → List ℕ
word_at words i = slice_index_or words i []

-- the words are this one
unfoldable pub is_only : List ℕ → List (List ℕ) → Bool
is_only word words = length words == 1 && bytes_eq (word_at words 0) word

-- the line of the first byte at which the longest front that is UTF-8 ends
unfoldable pub line_of_fault : List ℕ → ℕ
line_of_fault text = length (lines (take (utf8_valid_len text) text))
