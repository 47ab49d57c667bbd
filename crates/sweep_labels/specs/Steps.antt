-- Steps by which labels go on, and the minutes behind them.
use Rattle.std.specs.Prelude.{ℕ, ◌≡◌, ◌+◌, ◌<◌, max, nat_eq, nat_lt, if◌then◌else◌, List, length, slice_index_or}
use Rattle.lock_model.specs.Fleet.{chamber_at}
use Rattle.lock_model.specs.declared.instance.Instance.{Instance}
use Rattle.lock_model.specs.declared.group.Group.{Group}
use Rattle.lock_model.specs.declared.way.Way.{Way}
use Rattle.lock_rules.specs.Lawful.{stand_after}
use Rattle.lock_rules.specs.Timetable.{ready_at}
use Rattle.lock_rules.specs.Trace.{has_number}
use Rattle.sweep_rules.specs.Label.{Label, start_on, end_on, flow_on}
use Rattle.sweep_labels.specs.declared.arrivals.Arrivals.{Arrivals}
use Rattle.sweep_labels.specs.declared.ready_times.ReadyTimes.{ReadyTimes}
use Rattle.sweep_labels.specs.declared.label.Label.{Label as CodeLabel}
use Rattle.sweep_labels.specs.declared.step.Step.{Step}
use Rattle.sweep_labels.specs.Ships.{is_in}
use Rattle.sweep_labels.specs.Labels.{ready_by, times_at}
use Rattle.sweep_labels.specs.Coming.{AreRaised}

-- The step is this group of its chamber behind the label: its ships, and its start, end and flow time there.
pub record IsStepBy (I : Instance) (label : Label) (g : Group) (step : Step) : Type 0 where
  pub way : step.way ≡ g.way
  pub ships : (s : ℕ) → s < length I.ships → is_in step.arc.ships.bits s ≡ has_number g.ships s
  pub start : step.arc.start ≡ start_on I label step.chamber g
  pub end : step.arc.end ≡ end_on I label step.chamber g
  pub flow : step.arc.flow ≡ flow_on I label step.chamber g

-- the least minute at which chamber d may go on behind the step, before it is raised to an arrival
abbrev pub low_by : Instance → CodeLabel → Step → ℕ → Way → ℕ
low_by I label step d way =
    if nat_eq d step.chamber then ready_at (chamber_at I d) (stand_after step.way) step.arc.end way
    else (if nat_lt step.chamber d then max (ready_by (times_at label.ready d) way) step.arc.start
    else max (ready_by (times_at label.ready d) way) (step.arc.start + 1))

-- the same before any step
abbrev pub low_first : Instance → ℕ → Way → ℕ
low_first I d way = ready_at (chamber_at I d) (chamber_at I d).stands (chamber_at I d).opens way

-- the minutes of the first n chambers are these, raised to arrivals
pub record AllRaised (low : ℕ → Way → ℕ) (arrivals : List Arrivals) (bits n : ℕ) (times : List ReadyTimes) : Type 0 where
  pub each : (d : ℕ) (e : Arrivals) → d < n → AreRaised (slice_index_or arrivals d e) bits (low d) (times_at times d)
