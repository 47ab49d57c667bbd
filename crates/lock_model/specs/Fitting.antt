-- When ships fit a chamber, and the deck that they make of it.
use Rattle.std.specs.Prelude.{ℕ, ◌+◌, ◌*◌, ◌≡◌, ◌≤◌, List, map}
use Rattle.lock_model.specs.Deck.{Deck}
use Rattle.lock_model.specs.declared.deck.Size.{Size}
use Rattle.lock_model.specs.declared.ship.Ship.{Ship}
use Rattle.lock_model.specs.declared.chamber.Chamber.{Chamber}
use Rattle.lock_model.specs.declared.instance.Instance.{Instance}
use Rattle.lock_model.specs.declared.placement.Spot.{Spot}
use Rattle.lock_model.specs.Fleet.{ship_at, chamber_at}
use Rattle.lock_model.specs.Placement.{IsLegalPlacement}
use Rattle.lock_model.specs.Cargo.{HasNoClash}

abbrev pub size_of : Ship → Size
size_of s = record { length = s.length; width = s.width; cargo = s.cargo }

-- the measures of a chamber and the sizes of these ships, in their order
abbrev pub deck_of : Instance → ℕ → List ℕ → Deck
deck_of I c ships = record {
  length = (chamber_at I c).length;
  width = (chamber_at I c).width;
  end = (chamber_at I c).end;
  gap = (chamber_at I c).gap;
  side = (chamber_at I c).side;
  ships = map (λ s. size_of (ship_at I s)) ships;
}

-- the ship lies in the chamber with no other
abbrev pub FitsAlone : Chamber → Ship → Type 0
FitsAlone c s = (s.length + 2 * c.end ≤ c.length) × (s.width ≤ c.width)

-- equal clearance and gaps, and at most the deck's length and width
pub record IsNoRoomier (c : Chamber) (d : Deck) : Type 0 where
  pub end : c.end ≡ d.end
  pub gap : c.gap ≡ d.gap
  pub side : c.side ≡ d.side
  pub long : c.length ≤ d.length
  pub wide : c.width ≤ d.width

-- No two ships clash, and some placement is legal.
pub record Fits (d : Deck) : Type 0 where
  pub clear : HasNoClash d
  pub placed : (spots : List Spot) × IsLegalPlacement d spots
