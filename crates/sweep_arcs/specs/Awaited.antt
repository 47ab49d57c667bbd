-- The ships that a chamber may want for a way.
use Rattle.std.specs.Prelude.{ℕ, ◌<◌, Bool, List, Contains}
use Rattle.lock_model.specs.Fleet.{ship_at}
use Rattle.lock_model.specs.declared.way.Way.{Way}
use Rattle.price_groups.specs.Asks.{LineAsk}
use Rattle.sweep_rules.specs.Label.{IsWanted}
use Rattle.sweep_labels.specs.declared.arrivals.Coming.{Coming}

-- the chamber wants the ship for the way where it is missing
abbrev pub IsAwaited : LineAsk → Way → ℕ → Type 0
IsAwaited ask way s = (served : ℕ → Bool) × IsWanted ask.instance ask.cuts served ask.chamber way s

-- the ship with its arrival
abbrev pub coming_of : LineAsk → ℕ → Coming
coming_of ask s = record { ship = s; arrival = (ship_at ask.instance s).arrival }

-- each of the first n ships that the chamber may want for the way is listed
pub record AreAwaited (ask : LineAsk) (way : Way) (n : ℕ) (items : List Coming) : Type 0 where
  pub each : (s : ℕ) → s < n → IsAwaited ask way s → Contains items (coming_of ask s)
