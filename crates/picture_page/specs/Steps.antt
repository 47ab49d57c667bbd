-- The minutes from tick to tick.
use Rattle.std.specs.Prelude.{ℕ, ◌-◌, ◌%◌, List, [], ◌∷◌, nat_le, max, if◌then◌else◌}
use Rattle.picture_page.specs.Capped.{plus, times}

abbrev pub steps : List ℕ
steps =
    1 ∷ 2 ∷ 5 ∷ 10 ∷ 15 ∷ 20 ∷ 30 ∷ 60 ∷ 120 ∷ 180 ∷ 240 ∷ 360 ∷ 720 ∷ 1440 ∷ 2880 ∷ 7200
    ∷ 14400 ∷ 28800 ∷ 72000 ∷ 144000 ∷ 288000 ∷ 720000 ∷ 1440000 ∷ 2880000 ∷ 7200000 ∷ 14400000 ∷ 28800000 ∷ 72000000 ∷ 144000000
    ∷ 288000000 ∷ 720000000 ∷ 1440000000 ∷ 2880000000 ∷ 7200000000 ∷ 14400000000 ∷ 28800000000 ∷ 72000000000 ∷ []

-- The first of these steps at which ticks are 54 pixels or more from each other, where so many minutes have so many pixels; else all minutes.
abbrev pub first_step : List ℕ → ℕ → ℕ → ℕ
first_step [] total room = max 1 total
first_step (s ∷ ss) total room = if nat_le (times 54 total) (times s room) then s else (first_step ss total room)

-- a minute rounded down and up to a multiple of the step, counted from so many minutes before minute 0
abbrev pub round_down : ℕ → ℕ → ℕ → ℕ
round_down offset step minute = (plus minute offset - plus minute offset % max 1 step) - offset

abbrev pub round_up : ℕ → ℕ → ℕ → ℕ
round_up offset step minute = plus (plus minute offset) ((max 1 step - plus minute offset % max 1 step) % max 1 step) - offset
