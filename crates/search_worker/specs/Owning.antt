-- What makes a node one of an instance, ship by ship and group by group.
use Rattle.std.specs.Prelude.{ℕ, ◌≡◌, ◌<◌, ◌≤◌, List, [], length, All, Contains}
use Rattle.std.specs.List.Sorted.{IsStrictlyIncreasing}
use Rattle.lock_model.specs.Limits.{Within}
use Rattle.lock_model.specs.Fleet.{ship_at, chamber_at}
use Rattle.lock_model.specs.declared.instance.Instance.{Instance}
use Rattle.lock_model.specs.declared.group.Group.{Group}
use Rattle.lock_model.specs.declared.way.Way.{Way}

-- a ship among the first ones that goes this way
pub record IsOwnShip (I : Instance) (first : List ℕ) (way : Way) (s : ℕ) : Type 0 where
  pub among : Contains first s
  pub way_is : (ship_at I s).way ≡ way

-- one to so many of the first ships in rising order, which all go the group's way
pub record IsOwnGroup (I : Instance) (first : List ℕ) (most : ℕ) (g : Group) : Type 0 where
  pub rising : IsStrictlyIncreasing g.ships
  pub count : Within 1 most (length g.ships)
  pub ships : All (IsOwnShip I first g.way) g.ships

-- the groups are such as chamber c may serve, and there is none past the last chamber
pub record IsOwnLine (I : Instance) (first : List ℕ) (c : ℕ) (line : List Group) : Type 0 where
  pub groups : c < length I.chambers → All (IsOwnGroup I first (chamber_at I c).most) line
  pub past : length I.chambers ≤ c → line ≡ []
