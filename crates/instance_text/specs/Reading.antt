-- Instance texts: what they mean, and their first defect.
use Rattle.std.specs.Prelude.{ℕ, ◌≡◌, ◌+◌, ◌==◌, ◌&&◌, Bool, List, [], ◌∷◌, ◌++◌, length, map, take, drop, nat_lt, Option, None, Some, Result, Ok, Err, codes, if◌then◌else◌}
use Rattle.std.specs.Str.{bytes_eq, is_utf8}
use Rattle.lock_model.specs.declared.instance.Instance.{Instance}
use Rattle.instance_text.specs.declared.bad.Bad.{Bad}
use Rattle.instance_text.specs.declared.bad.Kind.{Kind}
use Rattle.instance_text.specs.declared.bad.Kind.TheVariants.{NotUtf8, NoHeader, Word, Count, NoChamber, NoShip, NoEnd}
use Rattle.instance_text.specs.declared.format.Format.{Format}
use Rattle.instance_text.specs.declared.format.Format.TheVariants.{First, Second, Third}
use Rattle.line_text.specs.declared.progress.Progress.{Progress}
use Rattle.line_text.specs.declared.progress.Progress.TheVariants.{More, Ended}
use Rattle.line_text.specs.Filled.{Filled, first_words}
use Rattle.line_text.specs.Left.{Left, words_left}
use Rattle.line_text.specs.Lines.{lines, words, word_at, is_only, line_of_fault}
use Rattle.line_text.specs.Steps.{◌>>=◌, ◌>>◌, check, proceed}
use Rattle.instance_text.specs.Draft.{Draft, no_draft, draft_of}
use Rattle.instance_text.specs.Chamber.{read_chamber}
use Rattle.instance_text.specs.Ship.{read_ship}
use Rattle.instance_text.specs.Closing.{has_closures, read_closing, with_closure}

-- the line `end`, which needs a chamber and a ship before it
unfoldable pub read_end : Draft → List (List ℕ) → Result (Progress × Draft) Kind
read_end draft words = do
  check (length words == 1) Count
  check (nat_lt 0 (length draft.chambers)) NoChamber
  check (nat_lt 0 (length draft.ships)) NoShip
  Ok (Ended, draft)

unfoldable pub add_chamber : Draft → List (List ℕ) → Result (Progress × Draft) Kind
add_chamber draft words = do
  chamber ← read_chamber draft.chambers words
  Ok (More, record draft { chambers = draft.chambers ++ chamber ∷ [] })

unfoldable pub add_ship : Format → Draft → List (List ℕ) → Result (Progress × Draft) Kind
add_ship format draft words = do
  ship ← read_ship format draft.ships words
  Ok (More, record draft { ships = draft.ships ++ ship ∷ [] })

-- a closure, in the second and the third format
unfoldable pub add_closure : Format → Draft → List (List ℕ) → Result (Progress × Draft) Kind
add_closure format draft words = do
  check (has_closures format) Word
  found ← read_closing draft.chambers words
  Ok (More, record draft { chambers = with_closure draft.chambers found.0 found.1 })

-- a line after the header, by its first word
unfoldable pub read_line : Format → Draft → List (List ℕ) → Result (Progress × Draft) Kind
read_line format draft words =
    if length words == 0 then Ok (More, draft)
    else (if bytes_eq (word_at words 0) (codes "chamber") then add_chamber draft words
    else (if bytes_eq (word_at words 0) (codes "ship") then add_ship format draft words
    else (if bytes_eq (word_at words 0) (codes "close") then add_closure format draft words
    else (if bytes_eq (word_at words 0) (codes "end") then read_end draft words
    else Err Word))))

-- how far a line brings the text, with the draft that it leaves
abbrev pub answered : Draft → Result Progress Kind → Result (Progress × Draft) Kind
answered draft (Ok progress) = Ok (progress, draft)
answered draft (Err kind) = Err kind

-- the format that the words of the header name
unfoldable pub format_of : List (List ℕ) → Option Format
format_of words =
    if length words == 2 && bytes_eq (word_at words 0) (codes "glock")
    then (if bytes_eq (word_at words 1) (codes "1") then Some First
    else (if bytes_eq (word_at words 1) (codes "2") then Some Second
    else (if bytes_eq (word_at words 1) (codes "3") then Some Third else None)))
    else None

abbrev pub bad : ℕ → Kind → Bad
bad line kind = record { line = line; kind = kind }

-- the result of the line of this number
abbrev pub at_line : {A : Type 0} → ℕ → Result A Kind → Result A Bad
at_line n (Ok x) = Ok x
at_line n (Err kind) = Err (bad n kind)

abbrev pub ended : Draft → Result (Filled (List (List ℕ))) ℕ → Result Draft Bad
ended draft (Ok filled) = Err (bad filled.number Word)
ended draft (Err n) = Ok draft

-- after the line `end` no line has words; n lines stand before these
abbrev pub read_rest : ℕ → Draft → List (List (List ℕ)) → Result Draft Bad
read_rest n draft lines = ended draft (first_words n lines)

-- the lines after the header up to `end`, and those after it; n lines stand before these
abbrev pub read_body : Format → ℕ → Draft → List (List (List ℕ)) → Result Draft Bad
read_body format n draft [] = Err (bad n NoEnd)
read_body format n draft (words ∷ more) = do
  read ← at_line (n + 1) (read_line format draft words)
  proceed read.0 (read_body format (n + 1) read.1 more) (read_rest (n + 1) read.1 more)

-- the lines after the header of this format, which is line n
abbrev pub read_after : Option Format → ℕ → List (List (List ℕ)) → Result Draft Bad
read_after None n lines = Err (bad n NoHeader)
read_after (Some format) n lines = read_body format n no_draft lines

abbrev pub read_from : Result (Filled (List (List ℕ))) ℕ → Result Draft Bad
read_from (Ok header) = read_after (format_of header.line) header.number header.more
read_from (Err n) = Err (bad n NoHeader)

-- the header is the first line with words; n lines stand before these
abbrev pub read_lines : ℕ → List (List (List ℕ)) → Result Draft Bad
read_lines n lines = read_from (first_words n lines)

-- the same of the lines that are still to come of a text
abbrev pub read_rest_left : Draft → Left → Result Draft Bad
read_rest_left draft l = read_rest l.number draft (words_left l)

abbrev pub read_body_left : Format → Draft → Left → Result Draft Bad
read_body_left format draft l = read_body format l.number draft (words_left l)

abbrev pub read_lines_left : Left → Result Draft Bad
read_lines_left l = read_lines l.number (words_left l)

-- the chambers and ships of a text, or its first defect
unfoldable pub reading : List ℕ → Result Draft Bad
reading text = if is_utf8 text then read_lines 0 (map words (lines text)) else Err (bad (line_of_fault text) NotUtf8)

-- the text is an instance text of this instance
unfoldable pub Means : List ℕ → Instance → Type 0
Means text I = reading text ≡ Ok (draft_of I)

-- the text's first defect has this line and this kind
unfoldable pub Defect : List ℕ → ℕ → Kind → Type 0
Defect text line kind = reading text ≡ Err (bad line kind)

-- whether the words are the one word `end`
abbrev pub is_end : List (List ℕ) → Bool
is_end words = is_only (codes "end") words

-- the bytes of the lines up to the first line `end`, or of all, with a line feed for each
abbrev pub length_of_part : List (List ℕ) → ℕ
length_of_part [] = 0
length_of_part (line ∷ more) = length line + 1 + (if is_end (words line) then 0 else length_of_part more)

-- a text up to and with its first line `end` and that line's line feed, or else the whole text
unfoldable pub instance_part : List ℕ → List ℕ
instance_part text = take (length_of_part (lines text)) text

-- the bytes after the instance part
abbrev pub after_instance : List ℕ → List ℕ
after_instance text = drop (length (instance_part text)) text
