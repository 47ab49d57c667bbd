-- The drawing of a chamber: which ship shows in each cell.
use Rattle.std.specs.Prelude.{ℕ, ◌≡◌, ◌+◌, ◌*◌, ◌<◌, List, ◌++◌, length, slice_index_or, map, max, Bool, ◌&&◌, nat_le, nat_lt, IsTrue, Some, None, codes}
use Rattle.std.specs.declared.option.Option.{Option}
use Rattle.std.specs.Int.{div_ceil}
use Rattle.std.specs.List.{find, flat_map, range_with_len}
use Rattle.lock_model.specs.Deck.{Deck, no_size}
use Rattle.lock_model.specs.Placement.{spot_at}
use Rattle.lock_model.specs.declared.deck.Size.{Size}
use Rattle.lock_model.specs.declared.placement.Spot.{Spot}
use Rattle.plan_print.specs.Words.{letter}

-- the decimetres of a cell along the chamber and across it: at most 200 cells make a row, and at most 60 rows the drawing
abbrev pub cell_length : Deck → ℕ
cell_length d = max 50 (div_ceil d.length 200)

abbrev pub cell_width : Deck → ℕ
cell_width d = max 10 (div_ceil d.width 60)

abbrev pub columns_of : Deck → ℕ
columns_of d = div_ceil d.length (cell_length d)

abbrev pub rows_of : Deck → ℕ
rows_of d = div_ceil d.width (cell_width d)

-- a ship of this size at this spot covers the point
abbrev pub covers : Size → Spot → ℕ → ℕ → Bool
covers s p x y = (nat_le p.x x && nat_lt x (p.x + s.length)) && (nat_le p.y y && nat_lt y (p.y + s.width))

-- ship i covers the point
abbrev pub covers_at : List Size → List Spot → ℕ → ℕ → ℕ → Bool
covers_at sizes spots x y i = covers (slice_index_or sizes i no_size) (spot_at spots i) x y

-- the first ship that covers the point
abbrev pub ship_over : List Size → List Spot → ℕ → ℕ → Option ℕ
ship_over sizes spots x y = find (covers_at sizes spots x y) (range_with_len 0 (length sizes))

-- No two ships cover the same point, so the first one that does is the only one.
pub record IsDrawnAlone (sizes : List Size) (spots : List Spot) : Type 0 where
  pub alone : (x y i j : ℕ) → i < length sizes → j < length sizes → IsTrue (covers_at sizes spots x y i) → IsTrue (covers_at sizes spots x y j) → i ≡ j

-- the letter of a ship, or a dot where there is none
abbrev pub mark_of : Option ℕ → ℕ
mark_of None = 46
mark_of (Some i) = letter i

-- a cell shows the ship over the point at its near left corner
abbrev pub cell_at : Deck → List Spot → ℕ → ℕ → ℕ
cell_at d spots r c = mark_of (ship_over d.ships spots (c * cell_length d) (r * cell_width d))

unfoldable pub row_line : Deck → List Spot → ℕ → List ℕ
row_line d spots r = codes "  |" ++ map (cell_at d spots r) (range_with_len 0 (columns_of d)) ++ codes "|\n"

unfoldable pub drawing : Deck → List Spot → List ℕ
drawing d spots = flat_map (row_line d spots) (range_with_len 0 (rows_of d))
