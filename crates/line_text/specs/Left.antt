-- What is still to come of a text, line by line.
use Rattle.std.specs.Prelude.{ℕ, ◌+◌, List, [], length, map, Option, None, Some}
use Rattle.line_text.specs.Lines.{lines, words}

-- the bytes after the lines that were taken, and how many were taken; after the last line there are no bytes
pub record Left : Type 0 where
  pub bytes : Option (List ℕ)
  pub number : ℕ

abbrev pub lines_in : Option (List ℕ) → List (List ℕ)
lines_in None = []
lines_in (Some bytes) = lines bytes

abbrev pub bytes_in : Option (List ℕ) → List ℕ
bytes_in None = []
bytes_in (Some bytes) = bytes

abbrev pub size_in : Option (List ℕ) → ℕ
size_in None = 0
size_in (Some bytes) = length bytes + 1

-- the lines that are still to come
abbrev pub lines_left : Left → List (List ℕ)
lines_left l = lines_in l.bytes

-- the same, each by its words
abbrev pub words_left : Left → List (List (List ℕ))
words_left l = map words (lines_left l)

-- all bytes after the lines that were taken
abbrev pub bytes_left : Left → List ℕ
bytes_left l = bytes_in l.bytes

-- how many bytes and ends of lines are still to come
abbrev pub size_left : Left → ℕ
size_left l = size_in l.bytes
