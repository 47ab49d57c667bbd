-- How soon missing ships can be served behind a label.
use Rattle.std.specs.Prelude.{ℕ, ◌+◌, ◌≤◌, ◌<◌, max, List, length}
use Rattle.lock_model.specs.Fleet.{ship_at, chamber_at}
use Rattle.lock_model.specs.declared.instance.Instance.{Instance}
use Rattle.lock_model.specs.declared.way.Way.{Way}
use Rattle.price_rules.specs.Prices.{PlainCut}
use Rattle.sweep_rules.specs.Label.{Label, IsWanted}

-- No chamber that wants the ship has passed with it sooner than so many minutes after its arrival.
pub record IsSoonest (I : Instance) (cuts : List PlainCut) (label : Label) (soon : ℕ → ℕ) : Type 0 where
  pub least : (c : ℕ) → c < length I.chambers → (way : Way) (s : ℕ) → IsWanted I cuts label.served c way s
      → soon s + (ship_at I s).arrival ≤ max (label.ready c way) (ship_at I s).arrival + (chamber_at I c).pass + (ship_at I s).handling
