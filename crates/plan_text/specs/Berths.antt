-- The berth lines of a lockage, and the lockage that they make.
use Rattle.std.specs.Prelude.{ℕ, zero, suc, ◌==◌, Bool, true, List, [], ◌∷◌, length, map, filter, Result, Ok, Err, if◌then◌else◌}
use Rattle.std.specs.List.{list_any}
use Rattle.lock_model.specs.declared.instance.Instance.{Instance}
use Rattle.lock_model.specs.declared.placement.Spot.{Spot}
use Rattle.lock_model.specs.declared.placement.Moor.{Moor}
use Rattle.lock_model.specs.declared.placement.Moor.TheVariants.{Quay, Ship}
use Rattle.lock_model.specs.declared.placement.Rank.TheVariants.{Left}
use Rattle.lock_model.specs.declared.plan.Lockage.{Lockage}
use Rattle.lock_rules.specs.Arrival.{numbers_from}
use Rattle.plan_text.specs.declared.berth.Berth.{Berth}
use Rattle.plan_text.specs.declared.berth.Head.{Head}
use Rattle.plan_text.specs.declared.berth.Host.{Host}
use Rattle.plan_text.specs.declared.berth.Host.TheVariants.{Quay as AtQuay, Ship as AtShip}
use Rattle.plan_text.specs.declared.kinds.BadPlan.{BadPlan}
use Rattle.plan_text.specs.declared.kinds.PlanKind.TheVariants.{Host as LostHost}
use Rattle.plan_text.specs.Faults.{bad}

-- the ship has a berth among these
abbrev pub has_berth : ℕ → List Berth → Bool
has_berth s berths = list_any (λ b. b.ship == s) berths

-- the berth is at the quay, or at a ship that has a berth among these
abbrev pub is_hosted_by : List Berth → Host → Bool
is_hosted_by berths AtQuay = true
is_hosted_by berths (AtShip s) = has_berth s berths

-- the first of some berths whose host has no berth among all is at fault
abbrev pub check_hosts : List Berth → List Berth → Result (Unit {0}) BadPlan
check_hosts all [] = Ok tt
check_hosts all (b ∷ bs) = if is_hosted_by all b.host then check_hosts all bs else Err (bad b.line LostHost)

-- the ships that have a berth, by rising number
abbrev pub ships_of : Instance → List Berth → List ℕ
ships_of I berths = filter (λ s. has_berth s berths) (numbers_from 0 (length I.ships))

abbrev pub no_berth : Berth
no_berth = record { line = 0; ship = 0; x = 0; y = 0; rank = Left; host = AtQuay }

-- the berth of a ship
abbrev pub berth_of : ℕ → List Berth → Berth
berth_of s [] = no_berth
berth_of s (b ∷ bs) = if b.ship == s then b else berth_of s bs

-- the place of a ship among ships
abbrev pub place_of : ℕ → List ℕ → ℕ
place_of s [] = zero
place_of s (t ∷ ts) = if t == s then zero else suc (place_of s ts)

-- a host by its place in the deck
abbrev pub moor_of : List ℕ → Host → Moor
moor_of ships AtQuay = Quay
moor_of ships (AtShip s) = Ship (place_of s ships)

abbrev pub spot_of : List ℕ → Berth → Spot
spot_of ships b = record { x = b.x; y = b.y; rank = b.rank; moor = moor_of ships b.host }

-- the spots of these ships, in their order
abbrev pub spots_of : List ℕ → List Berth → List Spot
spots_of ships berths = map (λ s. spot_of ships (berth_of s berths)) ships

-- the lockage of a lockage line and its berth lines
unfoldable pub lockage_of : Instance → Head → List Berth → Lockage
lockage_of I head berths = record { chamber = head.chamber; way = head.way; ships = ships_of I berths; start = head.start; spots = spots_of (ships_of I berths) berths }
