-- What is written in hulls, in a font of fixed width.
use Rattle.std.specs.Prelude.{ℕ, ◌+◌, ◌*◌, ◌-◌, ◌/◌, ◌%◌, List, [], ◌∷◌, ◌++◌, length, Bool, ◌&&◌, ◌||◌, nat_le, nat_lt, codes, if◌then◌else◌}
use Rattle.std.specs.List.{flat_map, range_with_len}
use Rattle.lock_model.specs.declared.instance.Instance.{Instance}
use Rattle.lock_model.specs.declared.plan.Lockage.{Lockage}
use Rattle.lock_model.specs.declared.ship.Ship.{Ship}
use Rattle.lock_model.specs.declared.way.Way.{Way}
use Rattle.lock_model.specs.declared.way.Way.TheVariants.{Up, Down}
use Rattle.plan_print.specs.Words.{letter}
use Rattle.picture_page.specs.Forms.{filled}
use Rattle.picture_page.specs.Words.{metres}
use Rattle.picture_page.specs.Berths.{ship_of}
use Rattle.picture_page.specs.Hulls.{hull_of, hull_width, hull_length, bow_of, hull_middle}
use Rattle.picture_page.specs.declared.hulls.Hull.{Hull}
use Rattle.picture_page.specs.declared.writing.Room.{Room}
use Rattle.picture_page.specs.declared.scales.DeckScale.{DeckScale}

-- the room in a hull, along the chamber: not at its bow
abbrev pub room_in : Way → Hull → Room
room_in Up h = record { from = h.near + 36; to = h.far - 24 - bow_of h }
room_in Down h = record { from = h.near + 36 + bow_of h; to = h.far - 24 }

-- a mark of cargo has room
abbrev pub is_marked : ℕ → Hull → Room → Bool
is_marked cargo h r = (nat_lt 0 cargo && nat_le 68 (hull_width h)) && nat_le (r.from + 88) r.to

unfoldable pub mark : ℕ → Hull → Room → List ℕ
mark cargo h r =
    if is_marked cargo h r then
    (filled (codes "<use href=\"#k\" transform=\"translate(% %) scale(4)\"/><text class=\"sm mi\" x=\"%\" y=\"%\">%</text>")
    (r.from ∷ (hull_middle h - 28) ∷ (r.from + 28) ∷ (hull_middle h + 13) ∷ cargo ∷ []))
    else []

-- the room after it
abbrev pub room_after : ℕ → Hull → Room → Room
room_after cargo h r = if is_marked cargo h r then record { from = r.from + 72; to = r.to } else r

-- the width of a character, and the class of a smaller font
abbrev pub em_of : Hull → ℕ
em_of h = if nat_le 60 (hull_width h) then 27 else 22

abbrev pub font_of : Hull → List ℕ
font_of h = if nat_le 60 (hull_width h) then [] else codes " sm"

-- the line on which words stand
abbrev pub base_of : Hull → ℕ
base_of h = hull_middle h + em_of h / 2 + 2

-- the letter of place k, from a point on or about it
unfoldable pub letter_text : Hull → ℕ → ℕ → List ℕ
letter_text h x k =
    font_of h ++ filled (codes "\" x=\"%\" y=\"%\"><tspan class=\"bd\">") (x ∷ base_of h ∷ []) ++ letter k ∷ []

-- the letter alone
unfoldable pub letter_alone : Hull → Room → ℕ → List ℕ
letter_alone h r k = filled (codes "<text class=\"mo mi") [] ++ letter_text h ((r.from + r.to) / 2) k ++ filled (codes "</tspan></text>") []

-- the size has room after a letter, a name and spaces
abbrev pub has_size : Ship → Hull → Room → Bool
has_size s h r = nat_le (r.from + em_of h * (5 + length s.name + length (metres s.length) + length (metres s.width))) r.to

unfoldable pub ship_size : Ship → List ℕ
ship_size s = filled (codes "  %.%&#215;%.%") (s.length / 10 ∷ s.length % 10 ∷ s.width / 10 ∷ s.width % 10 ∷ [])

abbrev pub size_after : Ship → Hull → Room → List ℕ
size_after s h r = if has_size s h r then (ship_size s) else []

-- the letter and the name, and the size where it has room
unfoldable pub letter_name : Ship → Hull → Room → ℕ → List ℕ
letter_name s h r k =
    filled (codes "<text class=\"mo") [] ++ letter_text h r.from k ++ filled (codes "</tspan><tspan class=\"nm\"> ") [] ++ s.name ++ size_after s h r
    ++ filled (codes "</tspan></text>") []

-- nothing has room
abbrev pub is_small : Hull → Bool
is_small h = nat_lt (hull_width h) 34 || nat_lt (hull_length h) (em_of h + 24)

-- just the letter has room
abbrev pub is_narrow : Ship → Hull → Room → Bool
is_narrow s h r = nat_lt (hull_width h) 44 || nat_lt r.to (r.from + em_of h * (2 + length s.name))

abbrev pub words : Ship → Hull → Room → ℕ → List ℕ
words s h r k = if is_small h then [] else (if is_narrow s h r then (letter_alone h r k) else (letter_name s h r k))

-- what is written in the hull of a ship that goes this way
unfoldable pub writing_in : Way → Ship → Hull → ℕ → List ℕ
writing_in way s h k = mark s.cargo h (room_in way h) ++ words s h (room_after s.cargo h (room_in way h)) k

unfoldable pub writing_at : DeckScale → Instance → Lockage → ℕ → List ℕ
writing_at scale I l k = writing_in l.way (ship_of I l k) (hull_of scale I l k) k

unfoldable pub writing : DeckScale → Instance → Lockage → List ℕ
writing scale I l = flat_map (writing_at scale I l) (range_with_len 0 (length l.ships))
