-- The words of a ship line.
use Rattle.std.specs.Prelude.{ℕ, ◌≤◌, ◌==◌, ◌||◌, Bool, List, length, map, nat_lt, Result, Ok, if◌then◌else◌}
use Rattle.lock_model.specs.declared.limits.TheConstants.{FEW_SHIPS, SHIPS}
use Rattle.lock_model.specs.Limits.{Within}
use Rattle.lock_model.specs.declared.ship.Ship.{Ship}
use Rattle.instance_text.specs.declared.bad.Kind.{Kind}
use Rattle.instance_text.specs.declared.bad.Kind.TheVariants.{Count, Range}
use Rattle.instance_text.specs.declared.format.Format.{Format}
use Rattle.instance_text.specs.declared.format.Format.TheVariants.{First, Second, Third}
use Rattle.instance_text.specs.declared.ship_line.Figures.{Figures}
use Rattle.line_text.specs.Steps.{◌>>=◌, ◌>>◌, check}
use Rattle.instance_text.specs.Words.{number, new_name, way}
use Rattle.line_text.specs.Lines.{word_at}

-- how many words a ship line may have: 7, and in the second and the third format also 8
abbrev pub is_ship_count : Format → ℕ → Bool
is_ship_count First n = n == 7
is_ship_count Second n = n == 7 || n == 8
is_ship_count Third n = n == 7 || n == 8

-- the ships of a text, at most
abbrev pub most_ships : Format → ℕ
most_ships First = FEW_SHIPS
most_ships Second = FEW_SHIPS
most_ships Third = SHIPS

-- the cargo class, the eighth word, or 0 where there is none
unfoldable pub cargo : List (List ℕ) → Result ℕ Kind
cargo words = if length words == 8 then number 0 9 (word_at words 7) else Ok 0

-- ship <name> <up|down> <length> <width> <arrival> <handling>, and but for the first format a <class>
unfoldable pub read_ship : Format → List Ship → List (List ℕ) → Result Ship Kind
read_ship format earlier words = do
  check (is_ship_count format (length words)) Count
  check (nat_lt (length earlier) (most_ships format)) Range
  name ← new_name (map (λ s. s.name) earlier) (word_at words 1)
  way ← way (word_at words 2)
  length ← number 1 100000 (word_at words 3)
  width ← number 1 100000 (word_at words 4)
  arrival ← number 0 1000000 (word_at words 5)
  handling ← number 0 1000000 (word_at words 6)
  cargo ← cargo words
  Ok (record { name = name; way = way; length = length; width = width; arrival = arrival; handling = handling; cargo = cargo })

-- the part `<length> <width> <arrival> <handling>` of such a line
unfoldable pub read_figures : List (List ℕ) → Result Figures Kind
read_figures words = do
  length ← number 1 100000 (word_at words 3)
  width ← number 1 100000 (word_at words 4)
  arrival ← number 0 1000000 (word_at words 5)
  handling ← number 0 1000000 (word_at words 6)
  Ok (record { length = length; width = width; arrival = arrival; handling = handling })

pub record AreFigures (m : Figures) : Type 0 where
  pub length : Within 1 100000 m.length
  pub width : Within 1 100000 m.width
  pub arrival : m.arrival ≤ 1000000
  pub handling : m.handling ≤ 1000000
