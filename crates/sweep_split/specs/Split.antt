-- A label split in two: into one of the early ships and one of the late ships.
use Rattle.std.specs.Prelude.{ℕ, ◌≡◌, ◌+◌, ◌≤◌, ◌<◌, ◌||◌, not, max, Bool, true, false, List, length}
use Rattle.lock_model.specs.Fleet.{ship_at, chamber_at}
use Rattle.lock_model.specs.declared.instance.Instance.{Instance}
use Rattle.lock_model.specs.declared.way.Way.{Way}
use Rattle.lock_model.specs.declared.way.Way.TheVariants.{Up, Down}
use Rattle.price_rules.specs.Prices.{PlainCut}
use Rattle.sweep_rules.specs.Label.{Label, IsWanted, IsReadyFrom}
use Rattle.sweep_rules.specs.Completion.{EndsBelow}

-- the label as if it had served the late ships too
abbrev pub early_label : Label → (ℕ → Bool) → Label
early_label label late = record { served = λ s. label.served s || late s; ready = label.ready; flow = label.flow }

-- a first label of the late ships: it serves all others, and its chambers are ready at these minutes
abbrev pub late_label : (ℕ → Bool) → (ℕ → Way → ℕ) → Label
late_label late ready = record { served = λ s. not (late s); ready = ready; flow = 0 }

abbrev pub other_way : Way → Way
other_way Up = Down
other_way Down = Up

-- Each chamber is ready for each way no later than by a lockage of the other way, or by the first arrival of a ship that is wanted.
pub record IsSteady (I : Instance) (cuts : List PlainCut) (label : Label) : Type 0 where
  pub soon : (c : ℕ) → c < length I.chambers → (way : Way) (s : ℕ) → IsWanted I cuts label.served c way s
      → label.ready c way ≤ max (label.ready c (other_way way) + (chamber_at I c).pass) (ship_at I s).arrival

-- the label's chambers are ready no sooner than at these minutes, where a ship is wanted
pub record IsNoSooner (I : Instance) (cuts : List PlainCut) (ready : ℕ → Way → ℕ) (label : Label) : Type 0 where
  pub later : (c : ℕ) → c < length I.chambers → (way : Way) (s : ℕ) → IsWanted I cuts label.served c way s → ready c way ≤ label.ready c way

-- the label misses all late ships
pub record MissesAll (I : Instance) (late : ℕ → Bool) (label : Label) : Type 0 where
  pub missing : (s : ℕ) → s < length I.ships → late s ≡ true → label.served s ≡ false

-- a label that a sweep of the late ships begins with: the same, with its minutes raised, it may be, to the first arrival of a ship that is wanted
pub record IsLateLabel (I : Instance) (cuts : List PlainCut) (late : ℕ → Bool) (minutes : ℕ → Way → ℕ) (label : Label) : Type 0 where
  pub served : (s : ℕ) → s < length I.ships → label.served s ≡ not (late s)
  pub ready : (c : ℕ) → c < length I.chambers → (way : Way) → IsReadyFrom I cuts label.served c way (minutes c way) (label.ready c way)
  pub flow : label.flow ≡ 0

-- A late cost: from these minutes on nothing serves the late ships with less flow time.
pub record HasLateCost (I : Instance) (cuts : List PlainCut) (late : ℕ → Bool) (ready : ℕ → Way → ℕ) (cost : ℕ) : Type 0 where
  pub low : EndsBelow I cuts cost (late_label late ready) → ⊥
