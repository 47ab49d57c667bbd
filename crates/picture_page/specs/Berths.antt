-- Which ship lies at a place of a lockage, and how it is moored.
use Rattle.std.specs.Prelude.{ℕ, List, ◌++◌, slice_index_or, codes}
use Rattle.lock_model.specs.Fleet.{ship_at}
use Rattle.lock_model.specs.Placement.{spot_at}
use Rattle.lock_model.specs.declared.instance.Instance.{Instance}
use Rattle.lock_model.specs.declared.placement.Moor.{Moor}
use Rattle.lock_model.specs.declared.placement.Moor.TheVariants.{Quay, Ship as AtShip}
use Rattle.lock_model.specs.declared.placement.Spot.{Spot}
use Rattle.lock_model.specs.declared.plan.Lockage.{Lockage}
use Rattle.lock_model.specs.declared.ship.Ship.{Ship}
use Rattle.plan_print.specs.Words.{rank_word}

-- the ship at place k of a lockage
abbrev pub ship_of : Instance → Lockage → ℕ → Ship
ship_of I l k = ship_at I (slice_index_or l.ships k 0)

-- where it lies
abbrev pub spot_of : Lockage → ℕ → Spot
spot_of l k = spot_at l.spots k

-- at the quay, or at a ship of this lockage
abbrev pub moor_text : Instance → Lockage → Moor → List ℕ
moor_text I l Quay = codes " quay"
moor_text I l (AtShip k) = codes " at " ++ (ship_of I l k).name

-- the rank, and what the ship is moored to
unfoldable pub berth_text : Instance → Lockage → ℕ → List ℕ
berth_text I l k = rank_word (spot_of l k).rank ++ moor_text I l (spot_of l k).moor
