-- The first line of a text that has words.
use Rattle.std.specs.Prelude.{ℕ, ◌+◌, ◌==◌, List, [], ◌∷◌, length, Result, Ok, Err, if◌then◌else◌}
use Rattle.line_text.specs.Left.{Left, lines_left, words_left}
use Rattle.line_text.specs.Lines.{words}

-- a line with words, its number, and the lines after it
pub record Filled (X : Type 0) : Type 0 where
  pub number : ℕ
  pub line : X
  pub more : List X

-- the first of some lines that has words, or the number of the last of them where none has; n lines stand before these
abbrev pub first_filled : {X : Type 0} → (X → List (List ℕ)) → ℕ → List X → Result (Filled X) ℕ
first_filled words_of n [] = Err n
first_filled words_of n (line ∷ more) =
    if length (words_of line) == 0 then first_filled words_of (n + 1) more else Ok (record { number = n + 1; line = line; more = more })

-- of lines as they stand in a text
abbrev pub first_line : ℕ → List (List ℕ) → Result (Filled (List ℕ)) ℕ
first_line n lines = first_filled words n lines

-- of lines by their words
abbrev pub first_words : ℕ → List (List (List ℕ)) → Result (Filled (List (List ℕ))) ℕ
first_words n lines = first_filled (λ words. words) n lines

-- the line that was taken last, as it stands in a text, before what is left
abbrev pub taken_line : List ℕ → Left → Filled (List ℕ)
taken_line line l = record { number = l.number; line = line; more = lines_left l }

-- the same by its words
abbrev pub taken_words : List ℕ → Left → Filled (List (List ℕ))
taken_words line l = record { number = l.number; line = words line; more = words_left l }
