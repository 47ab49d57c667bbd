-- The ships of an instance in arrival order, and what those that are still missing take at the least.
use Rattle.std.specs.Prelude.{ℕ, ◌≡◌, ◌+◌, ◌*◌, ◌<◌, ◌≤◌, List, length, sum_by, slice_index_or}
use Rattle.lock_model.specs.declared.limits.TheConstants.{SHIPS}
use Rattle.lock_model.specs.declared.instance.Instance.{Instance}
use Rattle.lock_rules.specs.Arrival.{order_of, missing_ships}
use Rattle.lock_rules.specs.Bound.{least_passage}

-- the least passages of the ships that a node of depth k lacks, added
abbrev pub rest_of : Instance → ℕ → ℕ
rest_of I k = sum_by (least_passage I) (missing_ships I k)

pub record Roster : Type 0 where
  pub order : List ℕ
  pub rests : List ℕ

-- number k of these numbers is the rest at depth k
pub record AreRests (I : Instance) (rests : List ℕ) : Type 0 where
  pub each : (k : ℕ) → k < length rests → slice_index_or rests k 0 ≡ rest_of I k
  pub small : (k : ℕ) → k < length rests → slice_index_or rests k 0 ≤ SHIPS * 13000000

-- the roster of the instance
pub record IsRosterOf (I : Instance) (roster : Roster) : Type 0 where
  pub order_is : roster.order ≡ order_of I
  pub count : length roster.rests ≡ length I.ships + 1
  pub rests_are : AreRests I roster.rests
