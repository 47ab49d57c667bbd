-- How minutes are told.
use Rattle.std.specs.Prelude.{ℕ, List, [], ◌∷◌, ◌++◌, ◌+◌, ◌/◌, ◌%◌, nat_eq, decimal, codes, if◌then◌else◌}
use Rattle.picture_page.specs.Forms.{filled}
use Rattle.picture_page.specs.declared.times.Clock.{Clock}
use Rattle.picture_page.specs.declared.times.Clock.TheVariants.{Minutes, Day}

-- the time of day of minute 0, in minutes
abbrev pub offset_of : Clock → ℕ
offset_of Minutes = 0
offset_of (Day offset) = offset

-- so many days after the first
abbrev pub day_text : ℕ → List ℕ
day_text day = if nat_eq day 0 then [] else filled (codes "+% ") (day ∷ [])

-- hours and minutes, of a minute of a day
abbrev pub hours_text : ℕ → List ℕ
hours_text time = filled (codes "%%:%%") (time / 600 ∷ time / 60 % 10 ∷ time % 60 / 10 ∷ time % 10 ∷ [])

-- a minute as a time of day, where minute 0 is so many minutes after midnight
unfoldable pub day_time_text : ℕ → ℕ → List ℕ
day_time_text offset minute = day_text (minute / 1440 + (minute % 1440 + offset) / 1440) ++ hours_text ((minute % 1440 + offset) % 1440)

-- a minute as the clock tells it
abbrev pub time_text : Clock → ℕ → List ℕ
time_text Minutes minute = decimal minute
time_text (Day offset) minute = day_time_text offset minute
