-- The minute that it is: what has begun before it, its line in each row, and its flag above the axis.
use Rattle.std.specs.Prelude.{ℕ, ◌+◌, ◌*◌, ◌-◌, List, [], ◌∷◌, ◌++◌, length, min, max, Bool, false, nat_lt, Some, None, option_map, codes}
use Rattle.std.specs.declared.option.Option.{Option}
use Rattle.picture_page.specs.Forms.{filled}
use Rattle.picture_page.specs.Times.{time_text}
use Rattle.picture_page.specs.declared.times.Clock.{Clock}
use Rattle.picture_page.specs.Axis.{Drawn, x_of}

-- what begins at a minute has begun, where a page shows which minute it is
abbrev pub has_begun : Option ℕ → ℕ → Bool
has_begun None minute = false
has_begun (Some present) minute = nat_lt minute present

-- where the minute that it is lies
abbrev pub present_x : Drawn → Option ℕ
present_x axis = option_map (x_of axis) axis.present

-- the line there in a row so high
abbrev pub present_line : Option ℕ → ℕ → List ℕ
present_line None height = []
present_line (Some x) height = filled (codes "<path class=\"y\" d=\"M% 0V%\"/>") (x ∷ height ∷ [])

-- half of the words of a flag, whose characters have 6 pixels each, and their middle at a pixel: they stand within the picture
abbrev pub half_flag : Clock → ℕ → ℕ
half_flag clock minute = 3 * (4 + length (time_text clock minute))

abbrev pub flag_middle : ℕ → ℕ → ℕ
flag_middle half x = max (min x (812 - half)) half

-- a flag above the axis, with its line above and below the labels there
unfoldable pub flag : Clock → ℕ → ℕ → List ℕ
flag clock minute x =
    filled (codes "<g id=\"N\"><path class=\"y\" d=\"M% 11V16M% 29V34\"/><text class=\"n3\" x=\"%\" y=\"9\">now ")
    (x ∷ x ∷ flag_middle (half_flag clock minute) x ∷ [])
    ++ time_text clock minute ++ codes "</text></g>\n"

abbrev pub present_flag : Drawn → Option ℕ → List ℕ
present_flag axis None = []
present_flag axis (Some minute) = flag axis.clock minute (x_of axis minute)
