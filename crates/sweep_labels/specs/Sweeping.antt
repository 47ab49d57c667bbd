-- Labels of which each is open or treated.
use Rattle.std.specs.Prelude.{ℕ, ◌≡◌, ◌<◌, ◌⊎◌, Bool, true, List, length, map}
use Rattle.lock_model.specs.declared.instance.Instance.{Instance}
use Rattle.price_rules.specs.Prices.{PlainCut}
use Rattle.sweep_rules.specs.Label.{Label}
use Rattle.sweep_rules.specs.Treated.{IsTreated}
use Rattle.sweep_labels.specs.declared.label.KeptLabel.{KeptLabel}
use Rattle.sweep_labels.specs.Labels.{label_of}
use Rattle.sweep_labels.specs.Putting.{open_at}

-- the labels of the rules that these are
abbrev pub labels_of : List KeptLabel → List Label
labels_of items = map (λ kept. label_of kept.label) items

-- each label is open, or treated for the goal
pub record AreTreated (I : Instance) (cuts : List PlainCut) (goal : ℕ) (items : List KeptLabel) (flags : List Bool) : Type 0 where
  pub each : (k : ℕ) → k < length items → (open_at flags k ≡ true) ⊎ IsTreated I cuts goal (labels_of items) k
