-- The lanes: a row for each chamber.
use Rattle.std.specs.Prelude.{ℕ, ◌+◌, ◌-◌, List, [], ◌∷◌, ◌++◌, length, max, Bool, true, false, Some, None, codes, decimal}
use Rattle.std.specs.declared.option.Option.{Option}
use Rattle.std.specs.List.{flat_map, range_with_len}
use Rattle.lock_model.specs.Fleet.{ship_at, chamber_at}
use Rattle.lock_model.specs.declared.chamber.Chamber.{Chamber}
use Rattle.lock_model.specs.declared.closure.Closure.{Closure}
use Rattle.lock_model.specs.declared.instance.Instance.{Instance}
use Rattle.instance_text.specs.Canonical.{way_word, stand_word}
use Rattle.picture_page.specs.Forms.{filled}
use Rattle.picture_page.specs.Shapes.{passage_box, frame}
use Rattle.picture_page.specs.Times.{time_text}
use Rattle.picture_page.specs.Words.{measures, plural, count_text}
use Rattle.picture_page.specs.declared.times.Clock.{Clock}
use Rattle.picture_page.specs.Axis.{Drawn, x_of}
use Rattle.picture_page.specs.Present.{has_begun, present_x, present_line}
use Rattle.picture_page.specs.Passages.{passage_end, line_of}
use Rattle.picture_page.specs.declared.passage.Passage.{Passage}
use Rattle.picture_page.specs.Ground.{span_text, ground, water, closure_of, opening}
use Rattle.picture_page.specs.Labels.{are_wide, labels, opens_label}

-- the axis in the head of a table, with room for a flag above it where the page shows the minute that it is
abbrev pub axis_head : Option ℕ → List ℕ
axis_head None = codes "<svg viewBox=\"0 0 812 22\" aria-hidden=\"true\"><use href=\"#x\"/><use href=\"#A\"/></svg>"
axis_head (Some minute) =
    codes "<svg viewBox=\"0 0 812 34\" aria-hidden=\"true\"><use href=\"#x\" y=\"12\"/><use href=\"#A\" y=\"12\"/><use href=\"#N\"/></svg>"

unfoldable pub closed_text : Clock → Closure → List ℕ
closed_text clock k = codes ", closed" ++ span_text clock k.from k.to

-- a chamber's name and measures
unfoldable pub lane_name : Chamber → List ℕ
lane_name c =
    filled (codes "<tr><th scope=\"row\"><b>") [] ++ c.name ++ filled (codes "</b><small>") [] ++ measures c.length c.width ++ filled (codes "</small></th>") []

-- what its picture shows, in a sentence, and the grid
unfoldable pub lane_title : Clock → ℕ → Chamber → List ℕ
lane_title clock count c =
    filled (codes "<td class=\"ax\"><svg viewBox=\"0 0 812 44\" role=\"group\"><title>Chamber ") [] ++ c.name ++ filled (codes ": opens ") [] ++ time_text clock c.opens
    ++ filled (codes ", stands ") [] ++ stand_word c.stands ++ filled (codes " at first, ") [] ++ count_text count (codes "lockage")
    ++ flat_map (closed_text clock) c.closures ++ filled (codes "</title><use href=\"#G\"/>") []

-- a ship's name after a comma
unfoldable pub next_name : Instance → ℕ → List ℕ
next_name I s = codes ", " ++ (ship_at I s).name

-- the names of ships
abbrev pub names : Instance → List ℕ → List ℕ
names I [] = []
names I (s ∷ ss) = (ship_at I s).name ++ flat_map (next_name I) ss

-- the width of a box between two pixels, with a pixel free before and behind it
abbrev pub box_width : ℕ → ℕ → ℕ
box_width from to = max (to - (from + 2)) 1

-- that a lockage has begun
abbrev pub begun_word : Bool → List ℕ
begun_word true = codes ", begun,"
begun_word false = []

-- what a lockage is, in a sentence
unfoldable pub box_title : Instance → Clock → Bool → Passage → List ℕ
box_title I clock begun p =
    filled (codes "<a href=\"#l%\"><title>lockage % ") (p.number ∷ p.number ∷ []) ++ way_word p.way ++ begun_word begun ++ span_text clock p.start (passage_end p)
    ++ filled (codes ": ") [] ++ names I p.ships ++ filled (codes "</title>") []

-- the second outline in a lane of a lockage that has begun
abbrev pub begun_frame : Bool → ℕ → ℕ → List ℕ
begun_frame true x width = frame x width 10 39
begun_frame false x width = []

-- the box of a lockage, with a second outline where it has begun
unfoldable pub lockage_box : Instance → Drawn → Passage → List ℕ
lockage_box I axis p =
    box_title I axis.clock (has_begun axis.present p.start) p
    ++ passage_box p.way (x_of axis p.start + 1) (box_width (x_of axis p.start) (x_of axis (passage_end p))) 10 39
    ++ begun_frame (has_begun axis.present p.start) (x_of axis p.start + 1) (box_width (x_of axis p.start) (x_of axis (passage_end p)))
    ++ filled (codes "</a>") []

-- the picture of a chamber with these passages, up to the breaks
unfoldable pub lane_ground : Drawn → Chamber → List Passage → List ℕ
lane_ground axis c line = ground axis c.opens ++ water axis c line ++ flat_map (closure_of axis) c.closures ++ opening axis c.opens

-- the labels of a lane, and the count of lockages
unfoldable pub lane_words : Drawn → Bool → Chamber → List Passage → List ℕ
lane_words axis wide c line =
    labels axis wide 0 line ++ opens_label axis c.opens ++ filled (codes "</svg></td><td class=\"r\">") []
    ++ decimal (length line) ++ filled (codes "</td></tr>\n") []

-- the breaks of a lane, the line at the minute that it is, and what stands on them
unfoldable pub lane_end : Drawn → Bool → Chamber → List Passage → List ℕ
lane_end axis wide c line = filled (codes "<use href=\"#T\"/>") [] ++ present_line (present_x axis) 44 ++ lane_words axis wide c line

-- the lane of a chamber with these passages
unfoldable pub lane : Instance → Drawn → Bool → Chamber → List Passage → List ℕ
lane I axis wide c line =
    lane_name c ++ lane_title axis.clock (length line) c ++ lane_ground axis c line ++ flat_map (lockage_box I axis) line ++ lane_end axis wide c line

abbrev pub lane_at : Instance → Drawn → List Passage → ℕ → List ℕ
lane_at I axis ps c = lane I axis (are_wide axis ps) (chamber_at I c) (line_of c ps)

unfoldable pub lanes : Instance → Drawn → List Passage → List ℕ
lanes I axis ps = flat_map (lane_at I axis ps) (range_with_len 0 (length I.chambers))

-- THE TABLE OF CHAMBERS
unfoldable pub chambers_table : Instance → Drawn → List Passage → List ℕ
chambers_table I axis ps =
    filled (codes "<table class=\"t\" aria-label=\"chambers by time\">\n<thead><tr><th scope=\"col\">chamber") [] ++ plural (length I.chambers)
    ++ filled (codes "</th><td class=\"ax\">") [] ++ axis_head axis.present
    ++ filled (codes "</td><th scope=\"col\" class=\"r\">lockages</th></tr></thead>\n<tbody class=\"c\">\n") []
    ++ lanes I axis ps ++ filled (codes "</tbody>\n</table>\n") []
