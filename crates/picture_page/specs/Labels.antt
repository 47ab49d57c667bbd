-- Where the numbers and the arrows of lockages stand in a lane, and when it opens.
use Rattle.std.specs.Prelude.{ℕ, ◌+◌, ◌*◌, ◌-◌, ◌/◌, List, [], ◌∷◌, ◌++◌, length, Bool, true, false, ◌&&◌, nat_le, nat_lt, codes, if◌then◌else◌}
use Rattle.lock_model.specs.declared.way.Way.{Way}
use Rattle.picture_page.specs.Forms.{filled}
use Rattle.picture_page.specs.Shapes.{arrow_at}
use Rattle.picture_page.specs.Times.{time_text}
use Rattle.picture_page.specs.Axis.{Drawn, x_of, first_minute, clear_end}
use Rattle.picture_page.specs.Passages.{passage_end, digits_of}
use Rattle.picture_page.specs.declared.passage.Passage.{Passage}
use Rattle.picture_page.specs.declared.stretch.Stretch.{Stretch}
use Rattle.picture_page.specs.declared.labels.Stance.{Stance}
use Rattle.picture_page.specs.declared.labels.Stance.TheVariants.{Beside, Stacked, Narrow}

-- the pixels of a passage that no break cuts
unfoldable pub stretch_of : Drawn → Passage → Stretch
stretch_of axis p = record { from = x_of axis p.start; to = clear_end axis.breaks axis.gap (x_of axis p.start) (x_of axis (passage_end p)) }

abbrev pub stretch_width : Stretch → ℕ
stretch_width r = r.to - r.from

abbrev pub stretch_middle : Stretch → ℕ
stretch_middle r = (r.from + r.to) / 2

-- the number and the arrow have room side by side
abbrev pub is_wide : Drawn → Passage → Bool
is_wide axis p = nat_le (9 * digits_of p.number + 20) (stretch_width (stretch_of axis p))

abbrev pub are_wide : Drawn → List Passage → Bool
are_wide axis [] = true
are_wide axis (p ∷ ps) = is_wide axis p && are_wide axis ps

-- how a label stands: number and arrow side by side where all lockages of the page have room for that, else one below the other
abbrev pub stance_of : Bool → Stretch → Stance
stance_of true r = Beside
stance_of false r = if nat_le 18 (stretch_width r) then Stacked else Narrow

-- a number and its arrow side by side, from a pixel on
unfoldable pub side_by_side : ℕ → ℕ → Way → ℕ → List ℕ
side_by_side x digits way number =
    filled (codes "<text class=\"n1\" x=\"%\" y=\"29\">%</text>") (x ∷ number ∷ []) ++ arrow_at way (x + 9 * digits + 4) 19

-- a number above its arrow
unfoldable pub stacked : ℕ → Way → ℕ → List ℕ
stacked middle way number = filled (codes "<text class=\"n2\" x=\"%\" y=\"23\">%</text>") (middle ∷ number ∷ []) ++ arrow_at way (middle - 4) 26

-- in a narrow box the arrow alone, where it has room
abbrev pub narrow_arrow : Way → Stretch → List ℕ
narrow_arrow way r = if nat_le 13 (stretch_width r) then (arrow_at way (stretch_middle r - 4) 19) else []

-- the number fits above its box, where another one ends there at pixel `last`
abbrev pub fits_above : ℕ → ℕ → ℕ → Bool
fits_above last digits middle = nat_le (last + 2 + 3 * digits) middle

unfoldable pub number_above : ℕ → ℕ → ℕ → List ℕ
number_above last middle number =
    if fits_above last (digits_of number) middle then (filled (codes "<text class=\"n3\" x=\"%\" y=\"8\">%</text>") (middle ∷ number ∷ [])) else []

-- the label of a passage
abbrev pub label_text : Stance → ℕ → Passage → Stretch → List ℕ
label_text Beside last p r = side_by_side (r.from + (stretch_width r - (9 * digits_of p.number + 13)) / 2) (digits_of p.number) p.way p.number
label_text Stacked last p r = stacked (stretch_middle r) p.way p.number
label_text Narrow last p r = narrow_arrow p.way r ++ number_above last (stretch_middle r) p.number

-- where the last number above a box ends after it
abbrev pub last_after : Stance → ℕ → ℕ → ℕ → ℕ
last_after Beside last digits middle = last
last_after Stacked last digits middle = last
last_after Narrow last digits middle = if fits_above last digits middle then (middle + 3 * digits) else last

-- the labels of the passages of a lane
abbrev pub labels : Drawn → Bool → ℕ → List Passage → List ℕ
labels axis wide last [] = []
labels axis wide last (p ∷ ps) =
    label_text (stance_of wide (stretch_of axis p)) last p (stretch_of axis p)
    ++ labels axis wide (last_after (stance_of wide (stretch_of axis p)) last (digits_of p.number) (stretch_middle (stretch_of axis p))) ps

-- the grey ground has room for when the chamber opens, whose characters have 6 pixels each
abbrev pub has_opens : Drawn → ℕ → Bool
has_opens axis opens =
    nat_lt (first_minute axis.pieces) opens && nat_le (6 * length (time_text axis.clock opens) + 64) (clear_end axis.breaks axis.gap 20 (x_of axis opens))

unfoldable pub opens_text : Drawn → ℕ → List ℕ
opens_text axis opens = codes "<text class=\"q\" x=\"25\" y=\"28\">opens " ++ time_text axis.clock opens ++ codes "</text>"

abbrev pub opens_label : Drawn → ℕ → List ℕ
opens_label axis opens = if has_opens axis opens then (opens_text axis opens) else []
