-- Spots moved towards the near end.
use Rattle.std.specs.Prelude.{ℕ, suc, ◌-◌, ◌≡◌, ◌≤◌, ◌<◌, Bool, List, [], ◌∷◌, length, if◌then◌else◌}
use Rattle.lock_model.specs.Placement.{spot_at}
use Rattle.lock_model.specs.declared.placement.Spot.{Spot}

-- a spot moved by s unless its ship is done
abbrev pub shifted : Bool → ℕ → Spot → Spot
shifted done s p = record { x = if done then p.x else p.x - s; y = p.y; rank = p.rank; moor = p.moor }

-- the spots of ships k, k + 1 .. moved by s, but for the ships that are done
abbrev pub shift_from : (ℕ → Bool) → ℕ → ℕ → List Spot → List Spot
shift_from done s k [] = []
shift_from done s k (p ∷ ps) = shifted (done k) s p ∷ shift_from done s (suc k) ps

-- the same y, rank and mooring, and no greater x
pub record IsNoFarther (p q : Spot) : Type 0 where
  pub x : q.x ≤ p.x
  pub y : q.y ≡ p.y
  pub rank : q.rank ≡ p.rank
  pub moor : q.moor ≡ p.moor

-- as many spots, each no farther from the near end, and else the same
pub record AreNoFarther (spots after : List Spot) : Type 0 where
  pub count : length after ≡ length spots
  pub each : (i : ℕ) → i < length spots → IsNoFarther (spot_at spots i) (spot_at after i)
