-- Labels of the code, and which label of the rules each is.
use Rattle.std.specs.Prelude.{ℕ, ◌≡◌, ◌≤◌, ◌<◌, List, slice_index_or}
use Rattle.lock_model.specs.declared.limits.TheConstants.{CHAMBERS}
use Rattle.lock_model.specs.declared.way.Way.{Way}
use Rattle.lock_model.specs.declared.way.Way.TheVariants.{Up, Down}
use Rattle.sweep_rules.specs.Label.{Label}
use Rattle.sweep_labels.specs.declared.ready_times.ReadyTimes.{ReadyTimes}
use Rattle.sweep_labels.specs.declared.label.Label.{Label as CodeLabel}
use Rattle.sweep_labels.specs.Ships.{is_in}

-- the minute for the way
abbrev pub ready_by : ReadyTimes → Way → ℕ
ready_by times Up = times.up
ready_by times Down = times.down

-- each minute is no later than the other's
pub record AreNoLater (a b : ReadyTimes) : Type 0 where
  pub up : a.up ≤ b.up
  pub down : a.down ≤ b.down

-- no way of these minutes
abbrev pub no_times : ReadyTimes
no_times = record { up = 0; down = 0 }

-- the minutes of chamber c
abbrev pub times_at : List ReadyTimes → ℕ → ReadyTimes
times_at times c = slice_index_or times c no_times

-- the label of the rules that this one of the code is
abbrev pub label_of : CodeLabel → Label
label_of l = record { served = is_in l.served.bits; ready = λ c way. ready_by (times_at l.ready c) way; flow = l.flow }

-- all minutes of the first n chambers are no later than the others
pub record AreAllNoLater (n : ℕ) (a b : List ReadyTimes) : Type 0 where
  pub each : (c : ℕ) → c < n → AreNoLater (times_at a c) (times_at b c)

-- label a is no worse than label b: its flow time and minutes are no more
pub record IsNoWorse (a b : CodeLabel) : Type 0 where
  pub flow : a.flow ≤ b.flow
  pub ready : AreAllNoLater CHAMBERS a.ready b.ready

-- Label a dominates label b: they serve the same ships, and a is no worse.
pub record Dominates (a b : CodeLabel) : Type 0 where
  pub served : a.served ≡ b.served
  pub no_worse : IsNoWorse a b
