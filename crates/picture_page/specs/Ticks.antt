-- The ticks of an axis, and which of them have labels.
use Rattle.std.specs.Prelude.{ℕ, ◌+◌, ◌*◌, ◌-◌, ◌/◌, List, [], ◌∷◌, ◌++◌, length, map, min, max, Bool, true, false, ◌&&◌, nat_le, Some, None, if◌then◌else◌}
use Rattle.std.specs.declared.option.Option.{Option}
use Rattle.std.specs.List.{range_with_len}
use Rattle.picture_page.specs.Times.{offset_of, time_text}
use Rattle.picture_page.specs.declared.times.Clock.{Clock}
use Rattle.picture_page.specs.Capped.{plus, times}
use Rattle.picture_page.specs.Steps.{round_up}
use Rattle.picture_page.specs.Axis.{Drawn, x_of}
use Rattle.picture_page.specs.declared.pieces.Piece.{Piece}
use Rattle.picture_page.specs.declared.ticks.Mark.{Mark}
use Rattle.picture_page.specs.declared.ticks.Place.{Place}
use Rattle.picture_page.specs.declared.ticks.Place.TheVariants.{From, Before}
use Rattle.picture_page.specs.declared.ticks.Tick.{Tick}

-- a mark at a minute, whose label must end before a pixel
abbrev pub mark_at : Drawn → ℕ → ℕ → Mark
mark_at axis limit minute = record { minute = minute; x = x_of axis minute; place = Before limit }

-- how many multiples of the step there are from a multiple to a minute
abbrev pub multiples_to : ℕ → ℕ → ℕ → ℕ
multiples_to step first last = if nat_le first last then plus ((last - first) / max step 1) 1 else 0

-- marks at so many multiples of the step
abbrev pub multiples : Drawn → ℕ → ℕ → ℕ → List Mark
multiples axis limit first n = map (λ k. mark_at axis limit (plus first (times k axis.step))) (range_with_len 0 n)

-- marks at all multiples of the step from one minute to another
unfoldable pub marks_between : Drawn → ℕ → ℕ → ℕ → List Mark
marks_between axis limit from last =
    multiples axis limit (round_up (offset_of axis.clock) axis.step from) (multiples_to axis.step (round_up (offset_of axis.clock) axis.step from) last)

-- a label ends 8 pixels before the next piece, or with the picture
abbrev pub limit_before : List Piece → ℕ
limit_before [] = 812
limit_before (p ∷ ps) = p.left - 8

-- the marks of a piece: after a break its first minute has one, whatever the step is
abbrev pub marks_of : Drawn → ℕ → Bool → Piece → List Mark
marks_of axis limit true p = record { minute = p.from; x = p.left; place = From } ∷ marks_between axis limit (plus p.from 1) p.to
marks_of axis limit false p = marks_between axis limit p.from p.to

-- the marks of pieces, where there is a break before the first of them or not
abbrev pub marks_from : Drawn → Bool → List Piece → List Mark
marks_from axis broken [] = []
marks_from axis broken (p ∷ ps) = marks_of axis (limit_before ps) broken p ++ marks_from axis true ps

-- half of a label, whose characters have 6 pixels each
abbrev pub half_of : Clock → ℕ → ℕ
half_of clock minute = 3 * length (time_text clock minute)

-- where the label of a piece's first minute begins
abbrev pub left_of : ℕ → ℕ → ℕ
left_of x half = min (x - 4) (812 - 2 * half)

-- the middle of a label, where it has room from a free pixel on
abbrev pub label_middle : ℕ → ℕ → ℕ → Place → Option ℕ
label_middle free half x From = if nat_le free (left_of x half) then Some (left_of x half + half) else None
label_middle free half x (Before limit) = if nat_le (free + half) x && nat_le (x + half) limit then Some x else None

abbrev pub label_of : Clock → ℕ → Mark → Option ℕ
label_of clock free m = label_middle free (half_of clock m.minute) m.x m.place

-- the first pixel that is free after a label, if there is one
abbrev pub free_after : ℕ → ℕ → Option ℕ → ℕ
free_after free half None = free
free_after free half (Some middle) = middle + half + 8

-- the ticks of marks, with the labels that have room from left to right
abbrev pub ticks_from : Clock → ℕ → List Mark → List Tick
ticks_from clock free [] = []
ticks_from clock free (m ∷ ms) =
    record { minute = m.minute; x = m.x; label = label_of clock free m }
    ∷ ticks_from clock (free_after free (half_of clock m.minute) (label_of clock free m)) ms

-- THE TICKS of an axis
unfoldable pub ticks_of : Drawn → List Tick
ticks_of axis = ticks_from axis.clock 0 (marks_from axis false axis.pieces)
