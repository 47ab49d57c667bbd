-- Late costs, and labels that they bound.
use Rattle.std.specs.Prelude.{ℕ, ◌<◌, List, length, slice_index_or}
use Rattle.lock_model.specs.declared.way.Way.{Way}
use Rattle.sweep_rules.specs.Label.{IsFirstLabel}
use Rattle.sweep_labels.specs.declared.label.Label.{Label as CodeLabel}
use Rattle.sweep_labels.specs.Ships.{is_in}
use Rattle.sweep_labels.specs.Labels.{ready_by, times_at, label_of}
use Rattle.sweep_split.specs.Split.{HasLateCost}
use Rattle.sweep_arcs.specs.declared.lane.Lane.{Lane}
use Rattle.sweep.specs.declared.sweep_case.SweepCase.{SweepCase}
use Rattle.sweep.specs.declared.late.LateShips.{LateShips}
use Rattle.sweep.specs.declared.late_bound.LateCosts.{LateCosts}
use Rattle.sweep.specs.Bounds.{cuts_of, AreLanesFrom, AreLanesOf}

-- the minutes of all chambers at a first label
abbrev pub times_from : CodeLabel → ℕ → Way → ℕ
times_from first c way = ready_by (times_at first.ready c) way

-- the first lanes are the chambers of the case, and for all late ships there are those of the early ships' prices
pub record AreLanes (case : SweepCase) (late : List LateShips) (lanes : List Lane) : Type 0 where
  pub own : AreLanesOf case 0 lanes
  pub rows : (k : ℕ) (d : LateShips) → k < length late
      → AreLanesFrom case.instance.now (cuts_of case) (slice_index_or late k d).prices (slice_index_or late k d).first (length case.instance.now.chambers) lanes

-- from the first label's minutes on the first late ships cost so much at the least
pub record AreLateCosts (case : SweepCase) (late : List LateShips) (first : CodeLabel) (costs : List ℕ) : Type 0 where
  pub few : (k : ℕ) → k < length costs → k < length late
  pub each : (k : ℕ) (d : LateShips) → k < length costs → HasLateCost case.instance.now (cuts_of case) (is_in (slice_index_or late k d).ships.bits) (label_of first).ready (slice_index_or costs k 0)

-- the lanes are right, and so are the late costs that are known
pub record IsGuided (case : SweepCase) (all : List Lane) (known : LateCosts) : Type 0 where
  pub lanes : AreLanes case known.late.now all
  pub first : IsFirstLabel case.instance.now (cuts_of case) (label_of known.first)
  pub costs : AreLateCosts case known.late.now known.first known.costs.items
