-- The axis: pieces of time at one scale, with breaks of one width between them.
use Rattle.std.specs.Prelude.{ℕ, ◌+◌, ◌*◌, ◌-◌, ◌/◌, List, [], ◌∷◌, length, min, max, Bool, false, ◌&&◌, ◌||◌, nat_le, nat_lt}
use Rattle.std.specs.Prelude.{if◌then◌else◌}
use Rattle.std.specs.declared.option.Option.{Option}
use Rattle.picture_page.specs.Times.{offset_of}
use Rattle.picture_page.specs.declared.times.Clock.{Clock}
use Rattle.picture_page.specs.declared.times.Dial.{Dial}
use Rattle.picture_page.specs.Capped.{plus, times}
use Rattle.picture_page.specs.Spans.{spans_of, total_of, with_ends, first_of, last_of}
use Rattle.picture_page.specs.Steps.{steps, first_step, round_down, round_up}
use Rattle.picture_page.specs.declared.pieces.Piece.{Piece}
use Rattle.picture_page.specs.declared.pieces.AxisScale.{AxisScale}
use Rattle.picture_page.specs.declared.spans.Span.{Span}

-- the pieces with their minutes and pixels, where breaks begin, the width of a break, the step from tick to tick, how minutes are told,
-- and the minute that it is, where the page shows it
pub record Drawn : Type 0 where
  pub pieces : List Piece
  pub breaks : List ℕ
  pub gap : ℕ
  pub step : ℕ
  pub clock : Clock
  pub present : Option ℕ

-- n breaks have 28 pixels each, or all together at most 400
abbrev pub gap_for : ℕ → ℕ
gap_for n = min 28 (400 / max 1 n)

-- what they leave of the 768 pixels of the axis
abbrev pub room_for : ℕ → ℕ
room_for n = 768 - times (gap_for n) n

abbrev pub breaks_in : List Span → ℕ
breaks_in spans = length spans - 1

-- an axis has at least 60 minutes
abbrev pub step_of : List Span → ℕ
step_of spans = first_step steps (max (total_of spans) 60) (room_for (breaks_in spans))

-- the spans from a multiple of the step to a multiple of the step
unfoldable pub framed : Clock → List Span → List Span
framed clock spans =
    with_ends (round_down (offset_of clock) (step_of spans) (first_of spans))
    (round_up (offset_of clock) (step_of spans) (plus (last_of spans) (60 - total_of spans))) spans

-- where a minute lies that has so many minutes of pieces before it, and breaks before its piece up to pixel `at`
abbrev pub pixel_of : AxisScale → ℕ → ℕ → ℕ
pixel_of scale at done = min (plus at (times done scale.room / max scale.total 1)) 788

abbrev pub piece_of : AxisScale → ℕ → ℕ → Span → Piece
piece_of scale at done s = record { from = s.from; to = s.to; left = pixel_of scale at done; right = pixel_of scale at (plus done (s.to - s.from)) }

abbrev pub pieces_from : AxisScale → ℕ → ℕ → List Span → List Piece
pieces_from scale at done [] = []
pieces_from scale at done (s ∷ ss) = piece_of scale at done s ∷ pieces_from scale (plus at scale.gap) (plus done (s.to - s.from)) ss

abbrev pub axis_scale : ℕ → List Span → AxisScale
axis_scale n spans = record { total = total_of spans; room = room_for n; gap = gap_for n }

-- the pieces that spans make, the first from pixel 20 on
unfoldable pub pieces_of : Clock → List Span → List Piece
pieces_of clock spans = pieces_from (axis_scale (breaks_in spans) (framed clock spans)) 20 0 (framed clock spans)

-- a break begins where each piece but the last ends
abbrev pub breaks_of : List Piece → List ℕ
breaks_of [] = []
breaks_of (p ∷ []) = []
breaks_of (p ∷ q ∷ ps) = p.right ∷ breaks_of (q ∷ ps)

-- the axis that spans make
unfoldable pub axis_of_spans : Dial → List Span → Drawn
axis_of_spans dial spans = record {
  pieces = pieces_of dial.clock spans;
  breaks = breaks_of (pieces_of dial.clock spans);
  gap = gap_for (breaks_in spans);
  step = step_of spans;
  clock = dial.clock;
  present = dial.present;
}

-- THE AXIS of some events
unfoldable pub axis_of : Dial → List ℕ → Drawn
axis_of dial events = axis_of_spans dial (spans_of events)

-- between minute a at pixel xa and minute b at pixel xb
abbrev pub between : ℕ → ℕ → ℕ → ℕ → ℕ → ℕ
between t a xa b xb = plus xa (times (t - a) (xb - xa) / max (b - a) 1)

-- among pieces, where the one before them ended with minute b at pixel xb
abbrev pub x_among : List Piece → ℕ → ℕ → ℕ → ℕ
x_among [] b xb t = xb
x_among (p ∷ ps) b xb t =
    if nat_lt t p.from then between t b xb p.from p.left else
    (if nat_le t p.to then between t p.from p.left p.to p.right else (x_among ps p.to p.right t))

-- WHERE A MINUTE LIES
unfoldable pub x_of : Drawn → ℕ → ℕ
x_of axis t = min (x_among axis.pieces 0 20 t) 788

-- the first and the last minute
abbrev pub first_minute : List Piece → ℕ
first_minute [] = 0
first_minute (p ∷ ps) = p.from

abbrev pub last_minute : List Piece → ℕ
last_minute [] = 0
last_minute (p ∷ []) = p.to
last_minute (p ∷ q ∷ ps) = last_minute (q ∷ ps)

-- a span, its end not included, shares a minute with a piece
abbrev pub shows : List Piece → ℕ → ℕ → Bool
shows [] from to = false
shows (p ∷ ps) from to = (nat_lt from p.to && nat_lt p.from to) || shows ps from to

-- the end of the part of some pixels that no break cuts: the white part of a break has 10 pixels
abbrev pub clear_end : List ℕ → ℕ → ℕ → ℕ → ℕ
clear_end [] gap from to = to
clear_end (b ∷ bs) gap from to = if nat_lt from (b + gap) && nat_lt b to then (2 * b + gap - 10) / 2 else (clear_end bs gap from to)
