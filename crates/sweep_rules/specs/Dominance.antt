-- Dominance between labels.
use Rattle.std.specs.Prelude.{ℕ, ◌≡◌, ◌≤◌, ◌<◌, List, length}
use Rattle.lock_model.specs.declared.instance.Instance.{Instance}
use Rattle.lock_model.specs.declared.way.Way.{Way}
use Rattle.price_rules.specs.Prices.{PlainCut}
use Rattle.sweep_rules.specs.Label.{Label, IsWanted}

-- Label a serves for label b: they serve the same ships, and a's flow time and minutes are no more than b's, these where a ship is wanted.
pub record ServesFor (I : Instance) (cuts : List PlainCut) (a b : Label) : Type 0 where
  pub served : (s : ℕ) → s < length I.ships → a.served s ≡ b.served s
  pub ready : (c : ℕ) → c < length I.chambers → (way : Way) (s : ℕ) → IsWanted I cuts b.served c way s → a.ready c way ≤ b.ready c way
  pub flow : a.flow ≤ b.flow
