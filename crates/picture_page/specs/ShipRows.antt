-- The rows of the ships.
use Rattle.std.specs.Prelude.{ℕ, ◌+◌, ◌*◌, ◌-◌, List, [], ◌∷◌, ◌++◌, length, nat_le, codes, decimal, if◌then◌else◌}
use Rattle.std.specs.List.{flat_map}
use Rattle.lock_model.specs.Fleet.{ship_at, chamber_at}
use Rattle.lock_model.specs.declared.instance.Instance.{Instance}
use Rattle.lock_model.specs.declared.ship.Ship.{Ship}
use Rattle.lock_rules.specs.Arrival.{order_of}
use Rattle.picture_page.specs.Forms.{filled}
use Rattle.picture_page.specs.Shapes.{arrow, cargo_mark, passage_box}
use Rattle.picture_page.specs.Times.{time_text}
use Rattle.picture_page.specs.Words.{plural}
use Rattle.picture_page.specs.declared.times.Clock.{Clock}
use Rattle.picture_page.specs.Axis.{Drawn, x_of}
use Rattle.picture_page.specs.Present.{present_x, present_line}
use Rattle.picture_page.specs.Passages.{passage_end, digits_of, has}
use Rattle.picture_page.specs.declared.passage.Passage.{Passage}
use Rattle.picture_page.specs.Labels.{stretch_of, stretch_middle}
use Rattle.picture_page.specs.Lanes.{axis_head, box_width}
use Rattle.picture_page.specs.declared.stretch.Stretch.{Stretch}

-- a ship's way, name and cargo
unfoldable pub row_name : Ship → List ℕ
row_name s = filled (codes "<tr><th scope=\"row\">") [] ++ arrow s.way ++ s.name ++ cargo_mark s.cargo

-- when it arrives, and how long it waits up to a minute
unfoldable pub row_wait : Clock → Ship → ℕ → List ℕ
row_wait clock s start =
    filled (codes "</th><td class=\"v\">") [] ++ time_text clock s.arrival ++ filled (codes "</td><td class=\"v\">%") ((start - s.arrival) ∷ [])

-- from when to when
unfoldable pub row_span : Clock → Passage → List ℕ
row_span clock p =
    filled (codes "</td><td class=\"v\">") [] ++ time_text clock p.start ++ filled (codes "</td><td class=\"v\">") [] ++ time_text clock (passage_end p)

-- which passage it takes, in a chamber of this name, with a link to its deck, and the grid
unfoldable pub row_passage : Clock → List ℕ → Passage → List ℕ
row_passage clock name p =
    row_span clock p ++ filled (codes "</td><td><a href=\"#l%\">% ") (p.number ∷ p.number ∷ []) ++ name
    ++ filled (codes "</a></td><td class=\"ax\"><svg viewBox=\"0 0 812 16\" aria-hidden=\"true\"><use href=\"#g\"/>") []

-- the line of a wait between two pixels, where it has some
unfoldable pub wait_line : ℕ → ℕ → List ℕ
wait_line from to = if nat_le to from then [] else (filled (codes "<path class=\"p\" d=\"M% 8H%\"/>") (from ∷ to ∷ []))

-- the number of a passage in its box where that has room, else behind the box, which ends at a pixel
unfoldable pub row_number : ℕ → Stretch → ℕ → List ℕ
row_number number r end =
    if nat_le (r.from + 7 * digits_of number + 14) r.to then (filled (codes "<text class=\"n3\" x=\"%\" y=\"12\">%</text>") (stretch_middle r ∷ number ∷ []))
    else (filled (codes "<text class=\"n4\" x=\"%\" y=\"12\">%</text>") ((end + 4) ∷ number ∷ []))

-- the breaks of a row, the line at the minute that it is, and an arrival at a pixel
abbrev pub row_marks : Drawn → ℕ → List ℕ
row_marks axis here =
    filled (codes "<use href=\"#t\"/>") [] ++ present_line (present_x axis) 16 ++ filled (codes "<circle class=\"m\" cx=\"%\" cy=\"8\" r=\"4\"/>") (here ∷ [])

-- the picture of an arrival, the wait after it, and a passage
unfoldable pub row_picture : Drawn → ℕ → Passage → List ℕ
row_picture axis arrival p =
    wait_line (x_of axis arrival) (x_of axis p.start)
    ++ passage_box p.way (x_of axis p.start + 1) (box_width (x_of axis p.start) (x_of axis (passage_end p))) 2 14
    ++ filled (codes "<use href=\"#t\"/>") [] ++ present_line (present_x axis) 16
    ++ filled (codes "<circle class=\"m\" cx=\"%\" cy=\"8\" r=\"4\"/>") (x_of axis arrival ∷ [])
    ++ row_number p.number (stretch_of axis p) (x_of axis (passage_end p))

-- the row of a ship with its passage: its flow time is at the end
unfoldable pub row : Instance → Drawn → Ship → Passage → List ℕ
row I axis s p =
    row_name s ++ row_wait axis.clock s p.start ++ row_passage axis.clock (chamber_at I p.chamber).name p ++ row_picture axis s.arrival p
    ++ filled (codes "</svg></td><td class=\"r\">") [] ++ decimal (passage_end p - s.arrival) ++ filled (codes "</td></tr>\n") []

-- the row of ship s with the first passage that serves it
abbrev pub row_among : Instance → Drawn → ℕ → List Passage → List ℕ
row_among I axis s [] = []
row_among I axis s (p ∷ ps) = if has s p.ships then (row I axis (ship_at I s) p) else (row_among I axis s ps)

abbrev pub row_of : Instance → Drawn → List Passage → ℕ → List ℕ
row_of I axis ps s = row_among I axis s ps

-- the rows of all ships in arrival order
unfoldable pub rows : Instance → Drawn → List Passage → List ℕ
rows I axis ps = flat_map (row_of I axis ps) (order_of I)

-- THE TABLE OF SHIPS, with the cost of the plan
unfoldable pub ships_table : Instance → Drawn → List Passage → ℕ → List ℕ
ships_table I axis ps cost =
    filled (codes "<table class=\"t\" aria-label=\"ships by time\">\n<thead><tr><th scope=\"col\">ship") [] ++ plural (length I.ships)
    ++ filled (codes "</th><th scope=\"col\" class=\"v\">arrives</th><th scope=\"col\" class=\"v\">waits</th><th scope=\"col\" class=\"v\">starts</th><th scope=\"col\" class=\"v\">ends</th><th scope=\"col\">lockage</th><td class=\"ax\">") [] ++ axis_head axis.present
    ++ filled (codes "</td><th scope=\"col\" class=\"r\">flow time</th></tr></thead>\n<tbody class=\"s\">\n") []
    ++ rows I axis ps ++ filled (codes "<tr class=\"f\"><th scope=\"row\">total</th><td colspan=\"6\"></td><td class=\"r\">") [] ++ decimal cost
    ++ filled (codes "</td></tr>\n</tbody>\n</table>\n") []
