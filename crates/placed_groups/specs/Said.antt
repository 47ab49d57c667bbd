-- The key under which a memory keeps what was said of the ships of a chamber.
use Rattle.std.specs.Prelude.{ℕ, ◌-◌, ◌&&◌, Bool, nat_eq, List, ◌++◌, length, replicate}
use Rattle.std.specs.Cmp.Lexicographic.{pointwise}
use Rattle.lock_model.specs.declared.limits.TheConstants.{MOST}
use Rattle.placed_groups.specs.declared.group_key.GroupKey.{GroupKey}

-- the ships in eight places; 255 is no ship
abbrev pub padded : List ℕ → List ℕ
padded ships = ships ++ replicate (MOST - length ships) 255

abbrev pub key_of : ℕ → List ℕ → GroupKey
key_of chamber ships = record { chamber = chamber; ships = padded ships }

-- whether two keys have the same chamber and the same ships
abbrev pub are_same : GroupKey → GroupKey → Bool
are_same a b = nat_eq a.chamber b.chamber && pointwise nat_eq a.ships b.ships
