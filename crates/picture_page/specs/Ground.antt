-- The ground of a lane: what is not open, turning or closed, and the water between the lockages.
use Rattle.std.specs.Prelude.{ℕ, ◌+◌, ◌-◌, List, [], ◌∷◌, ◌++◌, Bool, true, false, ◌||◌, nat_le, nat_lt, Some, None, codes, if◌then◌else◌}
use Rattle.std.specs.declared.option.Option.{Option}
use Rattle.std.specs.List.{flat_map}
use Rattle.lock_model.specs.declared.chamber.Chamber.{Chamber}
use Rattle.lock_model.specs.declared.closure.Closure.{Closure}
use Rattle.lock_model.specs.declared.way.Stand.{Stand}
use Rattle.lock_model.specs.declared.way.Stand.TheVariants.{Low, High}
use Rattle.lock_model.specs.declared.way.Way.{Way}
use Rattle.lock_rules.specs.Lawful.{stand_after, stand_before}
use Rattle.picture_page.specs.Forms.{filled}
use Rattle.picture_page.specs.Times.{time_text}
use Rattle.picture_page.specs.declared.times.Clock.{Clock}
use Rattle.picture_page.specs.Axis.{Drawn, x_of, first_minute, last_minute, shows}
use Rattle.picture_page.specs.Present.{has_begun}
use Rattle.picture_page.specs.Passages.{passage_end}
use Rattle.picture_page.specs.declared.passage.Passage.{Passage}

unfoldable pub span_text : Clock → ℕ → ℕ → List ℕ
span_text clock from to = codes " from " ++ time_text clock from ++ codes " to " ++ time_text clock to

-- the grey ground of a chamber that is not open before a minute
unfoldable pub closed_ground : Drawn → ℕ → List ℕ
closed_ground axis opens =
    filled (codes "<g><title>not open before ") [] ++ time_text axis.clock opens
    ++ filled (codes "</title><rect class=\"n\" x=\"20\" y=\"10\" width=\"%\" height=\"29\"/></g>") ((x_of axis opens - 20) ∷ [])

-- there is none where the chamber opens no later than the axis begins
abbrev pub ground : Drawn → ℕ → List ℕ
ground axis opens = if nat_le opens (first_minute axis.pieces) then [] else (closed_ground axis opens)

-- the box of an empty turn, with a whole outline where it has begun and else with a broken one
abbrev pub turn_form : Bool → List ℕ
turn_form true = codes "</title><rect class=\"oq\" x=\"%\" y=\"10\" width=\"%\" height=\"29\"/></g>"
turn_form false = codes "</title><rect class=\"o\" x=\"%\" y=\"10\" width=\"%\" height=\"29\"/></g>"

-- the empty turn that begins at a minute and takes so many
unfoldable pub turn_box : Drawn → ℕ → ℕ → List ℕ
turn_box axis minute long =
    filled (codes "<g><title>empty turn") [] ++ span_text axis.clock minute (minute + long)
    ++ filled (turn_form (has_begun axis.present minute)) (x_of axis minute ∷ (x_of axis (minute + long) - x_of axis minute) ∷ [])

unfoldable pub turn_ground : Drawn → ℕ → Option ℕ → List ℕ
turn_ground axis long None = []
turn_ground axis long (Some minute) = turn_box axis minute long

abbrev pub turn_of : Drawn → ℕ → Passage → List ℕ
turn_of axis long p = turn_ground axis long p.turn

-- how high the water of a side is drawn
abbrev pub water_at : Stand → ℕ
water_at Low = 39
water_at High = 10

-- the water line up to an empty turn and through it, where there is one before a lockage of this way
unfoldable pub slope : Drawn → ℕ → Way → Option ℕ → List ℕ
slope axis long way None = []
slope axis long way (Some minute) = filled (codes "H%L% %") (x_of axis minute ∷ x_of axis (minute + long) ∷ water_at (stand_before way) ∷ [])

-- the water line up to a lockage, and where it goes on after it
unfoldable pub wave : Drawn → ℕ → Passage → List ℕ
wave axis long p = slope axis long p.way p.turn ++ filled (codes "H%M% %") (x_of axis p.start ∷ x_of axis (passage_end p) ∷ water_at (stand_after p.way) ∷ [])

-- the empty turns of a chamber with these passages, and its water line
unfoldable pub open_water : Drawn → Chamber → List Passage → List ℕ
open_water axis c line =
    flat_map (turn_of axis c.turn) line
    ++ filled (codes "<path class=\"l\" d=\"M% %") (x_of axis c.opens ∷ water_at c.stands ∷ [])
    ++ flat_map (wave axis c.turn) line
    ++ filled (codes "H%\"/>") (x_of axis (last_minute axis.pieces) ∷ [])

-- there is none where the chamber opens after the axis ends
abbrev pub water : Drawn → Chamber → List Passage → List ℕ
water axis c line = if nat_lt (last_minute axis.pieces) c.opens then [] else (open_water axis c line)

-- the hatched box of a closure
unfoldable pub closure_box : Drawn → ℕ → ℕ → List ℕ
closure_box axis from to =
    filled (codes "<g><title>closed") [] ++ span_text axis.clock from to
    ++ filled (codes "</title><rect class=\"z\" x=\"%\" y=\"6\" width=\"%\" height=\"37\"/><rect class=\"zb\" x=\"%\" y=\"6\" width=\"%\" height=\"37\"/></g>")
    (x_of axis from ∷ (x_of axis to - x_of axis from) ∷ x_of axis from ∷ (x_of axis to - x_of axis from) ∷ [])

-- it is drawn where it has a minute that isn't left out
unfoldable pub closure_of : Drawn → Closure → List ℕ
closure_of axis k = if shows axis.pieces k.from k.to then (closure_box axis k.from k.to) else []

-- the bar at the minute at which a chamber opens, where it is on the axis and not at its beginning
unfoldable pub opening : Drawn → ℕ → List ℕ
opening axis opens =
    if nat_le opens (first_minute axis.pieces) || nat_lt (last_minute axis.pieces) opens then [] else
    (filled (codes "<path class=\"nb\" d=\"M% 6V43\"/>") (x_of axis opens ∷ []))
