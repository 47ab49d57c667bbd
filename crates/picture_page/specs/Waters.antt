-- The chamber of a card: water, quays, gates, end clearances, and the words below.
use Rattle.std.specs.Prelude.{ℕ, ◌+◌, ◌-◌, ◌/◌, List, [], ◌∷◌, ◌++◌, min, max, nat_eq, nat_lt, codes, if◌then◌else◌}
use Rattle.lock_model.specs.declared.chamber.Chamber.{Chamber}
use Rattle.picture_page.specs.Forms.{filled}
use Rattle.picture_page.specs.Words.{measures}
use Rattle.picture_page.specs.Scales.{units_of}
use Rattle.picture_page.specs.declared.scales.DeckScale.{DeckScale}

-- the length and the width of a chamber as it is drawn
abbrev pub drawn : DeckScale → ℕ → ℕ
drawn scale v = max (units_of scale v) 8

-- a gate from a pixel on, with leaves so long, in a chamber so wide; it points to the high water
unfoldable pub gate : ℕ → ℕ → ℕ → List ℕ
gate x leaf width = filled (codes "<path class=\"gt\" d=\"M% 32L% %L% %\"/>") (x ∷ (x + leaf) ∷ (32 + width / 2) ∷ x ∷ (32 + width) ∷ [])

abbrev pub leaf_of : ℕ → ℕ
leaf_of width = min (width / 4) 56

-- the water from 96, 32 on, so long and so wide, with its quays and gates
unfoldable pub basin : ℕ → ℕ → List ℕ
basin length width =
    filled (codes "<rect class=\"wt\" x=\"96\" y=\"32\" width=\"%\" height=\"%\"/><rect class=\"qy\" x=\"0\" y=\"0\" width=\"%\" height=\"32\"/><rect class=\"qy\" x=\"0\" y=\"%\" width=\"%\" height=\"32\"/>")
    (length ∷ width ∷ (length + 192) ∷ (32 + width) ∷ (length + 192) ∷ [])
    ++ gate (88 - leaf_of width) (leaf_of width) width ++ gate (length + 104) (leaf_of width) width

-- the lines that ships keep clear of, where the chamber asks it
unfoldable pub ends : DeckScale → Chamber → ℕ → List ℕ
ends scale c width =
    if nat_eq c.end 0 then [] else
    (filled (codes "<path class=\"ed\" d=\"M% 32V%M% 32V%\"/>") ((96 + units_of scale c.end) ∷ (32 + width) ∷ (96 + units_of scale (c.length - c.end))
    ∷ (32 + width) ∷ []))

unfoldable pub waters : DeckScale → Chamber → List ℕ
waters scale c = basin (drawn scale c.length) (drawn scale c.width) ++ ends scale c (drawn scale c.width)

-- the chamber's size in the middle, where it is long enough
unfoldable pub chamber_size : Chamber → ℕ → ℕ → List ℕ
chamber_size c middle base =
    filled (codes "<text class=\"ft gy mi\" x=\"%\" y=\"%\">") (middle ∷ base ∷ []) ++ measures c.length c.width ++ filled (codes "</text>") []

abbrev pub size_below : Chamber → ℕ → ℕ → List ℕ
size_below c length base = if nat_lt length 700 then [] else (chamber_size c (96 + length / 2) base)

-- the quays' names and the words below a deck so long, at a height
unfoldable pub feet : Chamber → ℕ → ℕ → List ℕ
feet c length base =
    filled (codes "<text class=\"ft gy qn\" x=\"96\" y=\"-14\">left quay</text><text class=\"ft gy qn\" x=\"132\" y=\"%\">right quay</text>") (base ∷ [])
    ++ filled (codes "<text class=\"ft gy\" x=\"0\" y=\"%\">low</text><text class=\"ft gy en\" x=\"%\" y=\"%\">high</text>") (base ∷ (length + 192) ∷ base ∷ [])
    ++ size_below c length base
