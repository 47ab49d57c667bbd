-- What a cut hits, ship by ship.
use Rattle.std.specs.Prelude.{ℕ, ◌≡◌, ◌<◌, List, length, Contains, slice_index_or}
use Rattle.lock_model.specs.Deck.{no_size}
use Rattle.lock_model.specs.Fitting.{size_of}
use Rattle.lock_model.specs.Fleet.{ship_at}
use Rattle.lock_model.specs.declared.deck.Size.{Size}
use Rattle.lock_model.specs.declared.instance.Instance.{Instance}

-- the ship is among these and has this size in the instance
pub record IsShipHit (I : Instance) (S : List ℕ) (ship : ℕ) (size : Size) : Type 0 where
  pub among : Contains S ship
  pub same : size ≡ size_of (ship_at I ship)

-- each of a cut's ships is among these and has its size in the instance
pub record AreShipsHit (ships : List ℕ) (sizes : List Size) (I : Instance) (S : List ℕ) : Type 0 where
  pub each : (i : ℕ) → i < length ships → IsShipHit I S (slice_index_or ships i 0) (slice_index_or sizes i no_size)
