-- A deck and its spots when one ship is left out.
use Rattle.std.specs.Prelude.{ℕ, zero, suc, ◌+◌, ◌-◌, Bool, false, ◌||◌, List, map, nat_eq, nat_lt, if◌then◌else◌}
use Rattle.std.specs.List.{remove}
use Rattle.lock_model.specs.Deck.{Deck, size_at}
use Rattle.lock_model.specs.Placement.{spot_at}
use Rattle.lock_model.specs.declared.placement.Spot.{Spot}
use Rattle.lock_model.specs.declared.placement.Rank.{Rank}
use Rattle.lock_model.specs.declared.placement.Rank.TheVariants.{Left, Right}
use Rattle.lock_model.specs.declared.placement.Moor.{Moor}
use Rattle.lock_model.specs.declared.placement.Moor.TheVariants.{Quay, Ship}

-- numbers above b fall by one
abbrev pub fallen : ℕ → ℕ → ℕ
fallen b k = if nat_lt b k then k - 1 else k

abbrev pub fallen_moor : ℕ → Moor → Moor
fallen_moor b Quay = Quay
fallen_moor b (Ship k) = Ship (fallen b k)

-- a mooring when ship b is left out: guests of b take b's mooring
abbrev pub moor_without : List Spot → ℕ → Moor → Moor
moor_without spots b Quay = Quay
moor_without spots b (Ship k) = if nat_eq k b then fallen_moor b (spot_at spots b).moor else Ship (fallen b k)

-- whether a mooring leads to ship b, through fewer than so many hosts
abbrev pub leads_to : List Spot → ℕ → Moor → ℕ → Bool
leads_to spots b Quay steps = false
leads_to spots b (Ship k) zero = false
leads_to spots b (Ship k) (suc steps) = nat_eq k b || leads_to spots b (spot_at spots k).moor steps

-- moved towards the quay of the rank
abbrev pub nearer : Rank → ℕ → ℕ → ℕ
nearer Left y by = y - by
nearer Right y by = y + by

-- A spot when ship b is left out. A ship that is moored to b through any number of hosts moves by b's width and the side gap; there are fewer hosts than the deck is wide.
abbrev pub thin_spot : Deck → List Spot → ℕ → Spot → Spot
thin_spot d spots b p = record {
  x = p.x;
  y = nearer p.rank p.y (if leads_to spots b p.moor d.width then (size_at d b).width + d.side else 0);
  rank = p.rank;
  moor = moor_without spots b p.moor;
}

abbrev pub thin_deck : Deck → ℕ → Deck
thin_deck d b = record { length = d.length; width = d.width; end = d.end; gap = d.gap; side = d.side; ships = remove d.ships b }

abbrev pub thin_spots : Deck → List Spot → ℕ → List Spot
thin_spots d spots b = map (thin_spot d spots b) (remove spots b)
