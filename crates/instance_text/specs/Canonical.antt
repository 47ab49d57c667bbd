-- The canonical text of an instance.
use Rattle.std.specs.Prelude.{ℕ, ◌==◌, ◌&&◌, Bool, List, [], ◌∷◌, ◌++◌, length, map, codes, decimal, if◌then◌else◌}
use Rattle.std.specs.List.{flat_map, list_all}
use Rattle.lock_model.specs.declared.chamber.Chamber.{Chamber}
use Rattle.lock_model.specs.declared.closure.Closure.{Closure}
use Rattle.lock_model.specs.declared.ship.Ship.{Ship}
use Rattle.lock_model.specs.declared.instance.Instance.{Instance}
use Rattle.lock_model.specs.Fleet.{is_large}
use Rattle.lock_model.specs.declared.way.Way.{Way}
use Rattle.lock_model.specs.declared.way.Way.TheVariants.{Up, Down}
use Rattle.lock_model.specs.declared.way.Stand.{Stand}
use Rattle.lock_model.specs.declared.way.Stand.TheVariants.{Low, High}
use Rattle.line_text.specs.Printed.{line}
use Rattle.instance_text.specs.declared.format.Format.{Format}
use Rattle.instance_text.specs.declared.format.Format.TheVariants.{First, Second, Third}

abbrev pub way_word : Way → List ℕ
way_word Up = codes "up"
way_word Down = codes "down"

abbrev pub stand_word : Stand → List ℕ
stand_word Low = codes "low"
stand_word High = codes "high"

unfoldable pub chamber_words : Chamber → List (List ℕ)
chamber_words c = codes "chamber" ∷ c.name ∷ decimal c.length ∷ decimal c.width ∷ decimal c.end ∷ decimal c.gap ∷ decimal c.side
    ∷ decimal c.most ∷ decimal c.pass ∷ decimal c.turn ∷ stand_word c.stands ∷ decimal c.opens ∷ []

unfoldable pub closing_words : List ℕ → Closure → List (List ℕ)
closing_words name k = codes "close" ∷ name ∷ decimal k.from ∷ decimal k.to ∷ []

-- the closures of one chamber by rising `from`
abbrev pub closings : Chamber → List (List (List ℕ))
closings c = map (closing_words c.name) c.closures

-- a number as it stands in a line, after a space
unfoldable pub field : ℕ → List ℕ
field n = 32 ∷ decimal n

-- a cargo class other than 0 as a last word
abbrev pub cargo_words : ℕ → List (List ℕ)
cargo_words cargo = if cargo == 0 then [] else decimal cargo ∷ []

-- the same as it stands in the line
abbrev pub cargo_field : ℕ → List ℕ
cargo_field cargo = if cargo == 0 then [] else field cargo

unfoldable pub ship_words : Ship → List (List ℕ)
ship_words s = (codes "ship" ∷ s.name ∷ way_word s.way ∷ decimal s.length ∷ decimal s.width ∷ decimal s.arrival ∷ decimal s.handling ∷ []) ++ cargo_words s.cargo

-- whether it has no closures, and all its cargo is harmless
abbrev pub is_plain : Instance → Bool
is_plain I = list_all (λ c. length c.closures == 0) I.chambers && list_all (λ s. s.cargo == 0) I.ships

-- the first format that says all of it
abbrev pub canonical_format : Instance → Format
canonical_format I = if is_large I.ships then Third else (if is_plain I then First else Second)

abbrev pub format_word : Format → List ℕ
format_word First = codes "1"
format_word Second = codes "2"
format_word Third = codes "3"

abbrev pub header_words : Format → List (List ℕ)
header_words format = codes "glock" ∷ format_word format ∷ []

-- the words of each line
unfoldable pub canonical_words : Instance → List (List (List ℕ))
canonical_words I = header_words (canonical_format I) ∷ map chamber_words I.chambers ++ flat_map closings I.chambers ++ map ship_words I.ships ++ (codes "end" ∷ []) ∷ []

unfoldable pub canonical : Instance → List ℕ
canonical I = flat_map line (canonical_words I)
