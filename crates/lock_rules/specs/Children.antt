-- The children of a node: the next ship joins a group, or stands alone in a new one.
use Rattle.std.specs.Prelude.{ℕ, Bool, true, false, List, [], ◌∷◌, ◌++◌, length, map, nat_lt, if◌then◌else◌, slice_set, ◌&&◌}
use Rattle.std.specs.List.{flat_map}
use Rattle.lock_model.specs.Fleet.{ship_at, chamber_at}
use Rattle.lock_model.specs.declared.instance.Instance.{Instance}
use Rattle.lock_model.specs.declared.group.Group.{Group}
use Rattle.lock_model.specs.declared.way.Way.{Way}
use Rattle.lock_model.specs.declared.way.Way.TheVariants.{Up, Down}
use Rattle.lock_rules.specs.Arrival.{numbers_from, next_ship}
use Rattle.lock_rules.specs.Node.{line_at}

abbrev pub same_way : Way → Way → Bool
same_way Up Up = true
same_way Up Down = false
same_way Down Up = false
same_way Down Down = true

-- a ship number put into rising numbers
abbrev pub insert_number : ℕ → List ℕ → List ℕ
insert_number s [] = s ∷ []
insert_number s (t ∷ ts) = if nat_lt s t then s ∷ t ∷ ts else (t ∷ insert_number s ts)

abbrev pub with_ship : ℕ → Group → Group
with_ship s g = record { way = g.way; ships = insert_number s g.ships }

abbrev pub single : Way → ℕ → Group
single way s = record { way = way; ships = s ∷ [] }

-- each line in which ship s of this way has joined one group of its way with fewer than `most` ships, by the group's place
abbrev pub joined : ℕ → Way → ℕ → List Group → List (List Group)
joined most way s [] = []
joined most way s (g ∷ gs) =
    (if same_way g.way way && nat_lt (length g.ships) most then (with_ship s g ∷ gs) ∷ [] else [])
    ++ map (λ rest. g ∷ rest) (joined most way s gs)

-- each line in which ship s stands alone in a new group, by the group's place
abbrev pub added : Way → ℕ → List Group → List (List Group)
added way s [] = (single way s ∷ []) ∷ []
added way s (g ∷ gs) = (single way s ∷ g ∷ gs) ∷ map (λ rest. g ∷ rest) (added way s gs)

-- the children in which ship s stands in chamber c
abbrev pub children_at : Instance → ℕ → List (List Group) → ℕ → List (List (List Group))
children_at I s lines c =
    map (λ line. slice_set lines c line)
    (joined (chamber_at I c).most (ship_at I s).way s (line_at lines c) ++ added (ship_at I s).way s (line_at lines c))

-- The children of these lines by ship s: it has joined a group or stands alone, chamber by chamber.
abbrev pub children_by : Instance → ℕ → List (List Group) → List (List (List Group))
children_by I s lines = flat_map (children_at I s lines) (numbers_from 0 (length I.chambers))

-- the children of a node of depth k, by its next ship
abbrev pub children_of : Instance → ℕ → List (List Group) → List (List (List Group))
children_of I k lines = children_by I (next_ship I k) lines
