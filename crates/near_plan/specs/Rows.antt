-- Lines of groups with the walks along them.
use Rattle.std.specs.Prelude.{ℕ, ◌<◌, [], length, slice_index_or}
use Rattle.lock_model.specs.declared.instance.Instance.{Instance}
use Rattle.flow_bounds.specs.Along.{IsAlong}
use Rattle.near_plan.specs.declared.row.Row.{Row}
use Rattle.near_plan.specs.declared.draft.Draft.{Draft}

-- its walk is that along its line on chamber c
pub record IsRow (I : Instance) (c : ℕ) (row : Row) : Type 0 where
  pub along : IsAlong I c row.line row.walks

-- the row of chamber c
abbrev pub row_at : Draft → ℕ → Row
row_at draft c = slice_index_or draft.rows c (record { line = []; walks = record { walks = []; loads = [] } })

-- each chamber of the instance has a row
pub record IsDraft (I : Instance) (draft : Draft) : Type 0 where
  pub each : (c : ℕ) → c < length I.chambers → IsRow I c (row_at draft c)
