-- What missing ships cost at the least behind a label.
use Rattle.std.specs.Prelude.{ℕ, ◌+◌, ◌*◌, ◌≤◌, ◌<◌, max, List, length, slice_index_or}
use Rattle.lock_model.specs.Fleet.{ship_at, chamber_at}
use Rattle.lock_model.specs.declared.limits.TheConstants.{SHIPS}
use Rattle.lock_model.specs.declared.instance.Instance.{Instance}
use Rattle.lock_model.specs.declared.way.Way.{Way}
use Rattle.price_rules.specs.Prices.{PlainCut, price_at}
use Rattle.sweep_rules.specs.Label.{IsWanted}
use Rattle.sweep_labels.specs.declared.arrivals.Coming.{Coming}
use Rattle.sweep_labels.specs.declared.arrivals.Arrivals.{Arrivals}
use Rattle.sweep_labels.specs.declared.label.Label.{Label as CodeLabel}
use Rattle.sweep_labels.specs.declared.ready_times.ReadyTimes.{ReadyTimes}
use Rattle.sweep_labels.specs.Ships.{is_in}
use Rattle.sweep_labels.specs.Labels.{ready_by, times_at}
use Rattle.sweep_labels.specs.Coming.{coming_at, ArriveIn}
use Rattle.sweep.specs.declared.sweep_case.SweepCase.{SweepCase}

-- the minutes of ship s
abbrev pub soon_at : List ℕ → ℕ → ℕ
soon_at soonest s = slice_index_or soonest s 0

-- no ship's minutes are more than they were
pub record AreLower (old new : List ℕ) : Type 0 where
  pub each : (s : ℕ) → soon_at new s ≤ soon_at old s

-- Those of the first n listed ships are no more than from their arrival until a chamber has passed that is ready at a minute.
pub record AreSoon (items : List Coming) (ready pass n : ℕ) (soonest : List ℕ) : Type 0 where
  pub each : (k : ℕ) → k < n → (coming_at items k).ship < SHIPS
      → soon_at soonest (coming_at items k).ship + (coming_at items k).arrival ≤ max ready (coming_at items k).arrival + pass

-- the same of a chamber's ships of both ways
pub record AreSoonIn (arrivals : Arrivals) (times : ReadyTimes) (pass : ℕ) (soonest : List ℕ) : Type 0 where
  pub up : AreSoon arrivals.up.items.items times.up pass (length arrivals.up.items.items) soonest
  pub down : AreSoon arrivals.down.items.items times.down pass (length arrivals.down.items.items) soonest

-- and of the first n chambers behind a label
pub record AreSoonBefore (case : SweepCase) (label : CodeLabel) (n : ℕ) (soonest : List ℕ) : Type 0 where
  pub each : (c : ℕ) (d : Arrivals) → c < n → AreSoonIn (slice_index_or case.arrivals.now c d) (times_at label.ready c) (chamber_at case.instance.now c).pass soonest

-- what ship s costs at the least, in hundredths of a minute: its price, or its soonest flow time where that is more
abbrev pub cost_from : SweepCase → List ℕ → ℕ → ℕ
cost_from case soonest s = max (price_at case.prices.now s) (100 * (soon_at soonest s + (ship_at case.instance.now s).handling))

-- A chamber is ready for each way no later than a lockage lets it be that begins as soon as it may, or than a ship arrives that it waits for.
pub record IsSteadyIn (arrivals : Arrivals) (bits : ℕ) (times : ReadyTimes) (pass : ℕ) : Type 0 where
  pub soon : (I : Instance) (cuts : List PlainCut) (c : ℕ) → length I.ships ≤ SHIPS → ArriveIn I cuts c arrivals → (way from : Way) (s : ℕ) → IsWanted I cuts (is_in bits) c way s
      → ready_by times way ≤ max (ready_by times from + pass) (ship_at I s).arrival

-- So are the first n chambers behind a label.
pub record AreSteadyBefore (case : SweepCase) (label : CodeLabel) (n : ℕ) : Type 0 where
  pub each : (c : ℕ) (d : Arrivals) → c < n → IsSteadyIn (slice_index_or case.arrivals.now c d) label.served.bits (times_at label.ready c) (chamber_at case.instance.now c).pass
