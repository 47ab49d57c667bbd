-- Lists of groups that have grown from a base.
use Rattle.std.specs.Prelude.{ℕ, ◌≡◌, ◌<◌, ◌⊎◌, List, length, All, Contains, slice_index_or}
use Rattle.lock_model.specs.declared.instance.Instance.{Instance}
use Rattle.lock_model.specs.declared.group.Group.{Group}
use Rattle.price_groups.specs.declared.sums.Sums.{Sums}
use Rattle.price_groups.specs.declared.grown_lists.GrownGroup.{GrownGroup}
use Rattle.price_groups.specs.declared.grown_lists.GrownList.{GrownList}
use Rattle.price_groups.specs.Asks.{GroupAsk}
use Rattle.price_groups.specs.Growing.{IsGrown, HasIdlerBy}
use Rattle.price_groups.specs.Sums.{AreSumsOf}

-- of the first n groups each with its sums
pub record ArePaired (groups : List Group) (sums : List Sums) (n : ℕ) (pairs : List GrownGroup) : Type 0 where
  pub count : length pairs ≡ n
  pub each : (j : ℕ) (d : GrownGroup) → j < n
      → (slice_index_or pairs j d).group ≡ slice_index_or groups j d.group × (slice_index_or pairs j d).sums ≡ slice_index_or sums j d.sums

-- the group has grown from the base by any ships, and its sums are its own
pub record IsGrownGroup (I : Instance) (c k : ℕ) (sets : List (List ℕ)) (base : Group) (one : GrownGroup) : Type 0 where
  pub grown : IsGrown I c k sets base (length I.ships) one.group
  pub sums : AreSumsOf I c one.group.ships one.sums

-- one of these is the group
pub record HasGroup (groups : List GrownGroup) (g : Group) : Type 0 where
  pub one : GrownGroup
  pub held : Contains groups one
  pub is : one.group ≡ g

-- The list holds all that grows from its base but some with a ship that gains nothing at these prices.
pub record IsGrownList (A : GroupAsk) (list : GrownList) : Type 0 where
  pub each : All (IsGrownGroup A.instance A.chamber A.depth A.sets list.base) list.groups.items
  pub whole : (g : Group) → IsGrown A.instance A.chamber A.depth A.sets list.base (length A.instance.ships) g
      → HasGroup list.groups.items g ⊎ HasIdlerBy A g
