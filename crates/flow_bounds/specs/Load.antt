-- What the service of a group depends on.
use Rattle.std.specs.Prelude.{ℕ, ◌≡◌, ◌+◌, ◌*◌, ◌≤◌, ◌<◌, List, length, sum_by, max, slice_index_or}
use Rattle.lock_model.specs.declared.limits.TheConstants.{MOST}
use Rattle.lock_model.specs.Fleet.{ship_at}
use Rattle.lock_model.specs.declared.ship.Ship.{Ship}
use Rattle.lock_model.specs.declared.instance.Instance.{Instance}
use Rattle.lock_model.specs.declared.group.Group.{Group}
use Rattle.lock_model.specs.declared.way.Way.{Way}
use Rattle.lock_model.specs.declared.way.Way.TheVariants.{Up}
use Rattle.lock_rules.specs.Timetable.{last_arrival}
use Rattle.flow_bounds.specs.declared.load.Load.{Load}
use Rattle.master_branch.specs.Steps.{group_in}

-- no ship
abbrev pub no_load : Way → Load
no_load way = record { way = way; count = 0; handling = 0; latest = 0; arrivals = 0 }

-- one ship more
abbrev pub with_one : Load → Ship → Load
with_one load s = record {
  way = load.way;
  count = load.count + 1;
  handling = load.handling + s.handling;
  latest = max load.latest s.arrival;
  arrivals = load.arrivals + s.arrival;
}

-- the load of a group's ships
pub record IsLoadOf (I : Instance) (g : Group) (load : Load) : Type 0 where
  pub way : load.way ≡ g.way
  pub count : load.count ≡ length g.ships
  pub handling : load.handling ≡ sum_by (λ s. (ship_at I s).handling) g.ships
  pub latest : load.latest ≡ last_arrival I 0 g.ships
  pub arrivals : load.arrivals ≡ sum_by (λ s. (ship_at I s).arrival) g.ships

-- a load of at most eight ships within the limits
pub record IsLoad (load : Load) : Type 0 where
  pub few : load.count ≤ MOST
  pub handling : load.handling ≤ load.count * 1000000
  pub latest : load.latest ≤ 1000000
  pub small : load.arrivals ≤ load.count * 1000000
  pub early : load.arrivals ≤ load.count * load.latest

abbrev pub load_at : List Load → ℕ → Load
load_at loads i = slice_index_or loads i (no_load Up)

-- number i of the loads is that of group i of a line
pub record AreLoads (I : Instance) (line : List Group) (loads : List Load) : Type 0 where
  pub room : length line ≤ length loads
  pub each : (i : ℕ) → i < length line → IsLoadOf I (group_in line i) (load_at loads i)
  pub kept : (i : ℕ) → i < length line → IsLoad (load_at loads i)
