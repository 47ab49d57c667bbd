-- The scales of decks, in units of a quarter of a pixel.
use Rattle.std.specs.Prelude.{ℕ, ◌*◌, ◌/◌, List, [], ◌∷◌, min, max, Bool, true, ◌&&◌, nat_le, nat_lt, if◌then◌else◌}
use Rattle.lock_model.specs.declared.chamber.Chamber.{Chamber}
use Rattle.picture_page.specs.declared.scales.DeckScale.{DeckScale}

-- a length in units, at most 100,000
abbrev pub units_of : DeckScale → ℕ → ℕ
units_of scale v = min (v * scale.units / max scale.decimetres 1) 100000

-- the greatest scale at which a chamber has at most 1776 by 800 units
abbrev pub own_scale : Chamber → DeckScale
own_scale c =
    if nat_le (1776 * c.width) (800 * c.length) then record { units = 1776; decimetres = c.length } else record { units = 800; decimetres = c.width }

abbrev pub is_smaller : DeckScale → DeckScale → Bool
is_smaller s t = nat_lt (s.units * t.decimetres) (t.units * s.decimetres)

-- s is at least a quarter of t
abbrev pub is_quarter : DeckScale → DeckScale → Bool
is_quarter s t = nat_le (t.units * s.decimetres) (4 * s.units * t.decimetres)

abbrev pub smaller_of : DeckScale → DeckScale → DeckScale
smaller_of s t = if is_smaller t s then t else s

-- the smallest of a scale and those of chambers
abbrev pub least_scale : DeckScale → List Chamber → DeckScale
least_scale s [] = s
least_scale s (c ∷ cs) = least_scale (smaller_of s (own_scale c)) cs

-- at least a quarter of the scale of each chamber
abbrev pub serves_all : DeckScale → List Chamber → Bool
serves_all s [] = true
serves_all s (c ∷ cs) = is_quarter s (own_scale c) && serves_all s cs

-- THE SCALE of a chamber: the smallest of all where that serves all, else its own
unfoldable pub deck_scale : List Chamber → Chamber → DeckScale
deck_scale cs c = if serves_all (least_scale (own_scale c) cs) cs then least_scale (own_scale c) cs else own_scale c
