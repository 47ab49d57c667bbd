-- The shapes that the rows share: arrows, grids, breaks and the axis.
use Rattle.std.specs.Prelude.{ℕ, ◌+◌, ◌-◌, ◌/◌, List, [], ◌∷◌, ◌++◌, min, Some, None, codes}
use Rattle.std.specs.declared.option.Option.{Option}
use Rattle.std.specs.List.{flat_map}
use Rattle.picture_page.specs.Forms.{filled}
use Rattle.picture_page.specs.Times.{time_text}
use Rattle.picture_page.specs.declared.times.Clock.{Clock}
use Rattle.picture_page.specs.Axis.{Drawn}
use Rattle.picture_page.specs.Present.{present_flag}
use Rattle.picture_page.specs.declared.ticks.Tick.{Tick}
use Rattle.picture_page.specs.declared.shared.TheConstants.{SIGNS}

-- the grid line of a tick in a row so high
unfoldable pub grid_line : ℕ → Tick → List ℕ
grid_line height t = filled (codes "<path d=\"M% 0V%\"/>") (t.x ∷ height ∷ [])

-- a grid of rows so high, which begins with a text
abbrev pub grid : List ℕ → ℕ → List Tick → List ℕ
grid head height ticks = filled head [] ++ flat_map (grid_line height) ticks ++ filled (codes "</g>\n") []

-- the grids of ships' rows and of lanes
unfoldable pub grids : List Tick → List ℕ
grids ticks = grid (codes "<g id=\"g\" class=\"g\">") 16 ticks ++ grid (codes "<g id=\"G\" class=\"g\">") 44 ticks

-- a break between two heights: a white strip between two slanted edges
unfoldable pub break_shape : ℕ → ℕ → ℕ → ℕ → List ℕ
break_shape middle half top bottom =
    filled (codes "<path class=\"tb\" d=\"M% %H%L% %H%Z\"/><path class=\"tl\" d=\"M% %L% %M% %L% %\"/>")
    ((middle + 2 - half) ∷ top ∷ (middle + half + 2) ∷ (middle + half - 2) ∷ bottom ∷ (middle - (half + 2)) ∷ (middle + 2 - half) ∷ top
    ∷ (middle - (half + 2)) ∷ bottom ∷ (middle + half + 2) ∷ top ∷ (middle + half - 2) ∷ bottom ∷ [])

-- the break that begins at a pixel
abbrev pub break_at : Drawn → ℕ → ℕ → ℕ → List ℕ
break_at axis top bottom at = break_shape (at + axis.gap / 2) (min axis.gap 10 / 2) top bottom

-- the breaks of rows, which begin with a text
abbrev pub row_breaks : Drawn → List ℕ → ℕ → ℕ → List ℕ
row_breaks axis head top bottom = filled head [] ++ flat_map (break_at axis top bottom) axis.breaks ++ filled (codes "</g>\n") []

-- the breaks of ships' rows, of lanes and of axis rows
unfoldable pub torn : Drawn → List ℕ
torn axis = row_breaks axis (codes "<g id=\"t\">") 0 16 ++ row_breaks axis (codes "<g id=\"T\">") 0 44 ++ row_breaks axis (codes "<g id=\"A\">") 15 22

-- the label of a minute, where it has one
abbrev pub tick_label : Clock → ℕ → Option ℕ → List ℕ
tick_label clock minute None = []
tick_label clock minute (Some middle) = filled (codes "<text x=\"%\" y=\"14\">") (middle ∷ []) ++ time_text clock minute ++ codes "</text>"

-- a tick of the axis
unfoldable pub tick_text : Clock → Tick → List ℕ
tick_text clock t = filled (codes "<path class=\"tl\" d=\"M% 17V22\"/>") (t.x ∷ []) ++ tick_label clock t.minute t.label

-- the axis, and the end of the shapes
abbrev pub axis_shape : Clock → List Tick → List ℕ
axis_shape clock ticks = filled (codes "<g id=\"x\" class=\"x\">") [] ++ flat_map (tick_text clock) ticks ++ filled (codes "</g>\n</defs></svg>\n") []

-- THE SHARED SHAPES: first the arrows up and down, the mark of cargo and the hatching
unfoldable pub shared : Drawn → List Tick → List ℕ
shared axis ticks = filled SIGNS.now [] ++ grids ticks ++ torn axis ++ present_flag axis axis.present ++ axis_shape axis.clock ticks
