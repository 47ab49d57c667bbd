-- The spots of a deck in a longer or wider one.
use Rattle.std.specs.Prelude.{ℕ, ◌+◌, ◌-◌, ◌≡◌, ◌≤◌, List, map}
use Rattle.lock_model.specs.Deck.{Deck}
use Rattle.lock_model.specs.declared.placement.Spot.{Spot}
use Rattle.lock_model.specs.declared.placement.Rank.{Rank}
use Rattle.lock_model.specs.declared.placement.Rank.TheVariants.{Left, Right}

-- equal clearance, gaps and ships, and at least the length and the width
pub record IsRoomier (d e : Deck) : Type 0 where
  pub end : d.end ≡ e.end
  pub gap : d.gap ≡ e.gap
  pub side : d.side ≡ e.side
  pub ships : d.ships ≡ e.ships
  pub long : d.length ≤ e.length
  pub wide : d.width ≤ e.width

-- right-rank ships move by the difference of the widths
abbrev pub wide_y : Rank → ℕ → ℕ → ℕ
wide_y Left y by = y
wide_y Right y by = y + by

abbrev pub wide_spot : ℕ → Spot → Spot
wide_spot by p = record { x = p.x; y = wide_y p.rank p.y by; rank = p.rank; moor = p.moor }

abbrev pub wide_spots : Deck → Deck → List Spot → List Spot
wide_spots d e spots = map (wide_spot (e.width - d.width)) spots
