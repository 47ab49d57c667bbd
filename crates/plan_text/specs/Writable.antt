-- The plans that some plan text names.
use Rattle.std.specs.Prelude.{ℕ, ◌≡◌, ◌≤◌, ◌<◌, ⊤, length, All}
use Rattle.std.specs.List.Sorted.{IsStrictlyIncreasing}
use Rattle.lock_model.specs.declared.limits.TheConstants.{MOST}
use Rattle.lock_model.specs.Fleet.{most_lockages}
use Rattle.lock_model.specs.declared.instance.Instance.{Instance}
use Rattle.lock_model.specs.declared.placement.Moor.{Moor}
use Rattle.lock_model.specs.declared.placement.Moor.TheVariants.{Quay, Ship}
use Rattle.lock_model.specs.declared.placement.Spot.{Spot}
use Rattle.lock_model.specs.declared.plan.Lockage.{Lockage}
use Rattle.lock_model.specs.declared.plan.Plan.{Plan}

-- the host, if there is one, is one of so many ships
abbrev pub IsWritableMoor : ℕ → Moor → Type 0
IsWritableMoor count Quay = ⊤
IsWritableMoor count (Ship k) = k < count

-- a spot that a berth line of a lockage of so many ships can say
pub record IsWritableSpot (count : ℕ) (p : Spot) : Type 0 where
  pub x : p.x ≤ 100000
  pub y : p.y ≤ 100000
  pub moor : IsWritableMoor count p.moor

-- a lockage that a lockage line and berth lines can say
pub record IsWritable (I : Instance) (l : Lockage) : Type 0 where
  pub chamber : l.chamber < length I.chambers
  pub start : l.start ≤ 1000000000
  pub few : length l.ships ≤ MOST
  pub known : All (λ s. s < length I.ships) l.ships
  pub rising : IsStrictlyIncreasing l.ships
  pub count : length l.spots ≡ length l.ships
  pub spots : All (IsWritableSpot (length l.ships)) l.spots

-- at most as many as a plan text of the instance may have
pub record AreWritable (I : Instance) (P : Plan) : Type 0 where
  pub few : length P.lockages ≤ most_lockages I.ships
  pub each : All (IsWritable I) P.lockages
