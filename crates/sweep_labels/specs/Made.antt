-- What becomes of the labels and the goal as a label is kept.
use Rattle.std.specs.Prelude.{ℕ, ◌≡◌, ◌≤◌, Bool, List, ◌++◌, length}
use Rattle.lock_model.specs.declared.instance.Instance.{Instance}
use Rattle.price_rules.specs.Prices.{PlainCut}
use Rattle.sweep_rules.specs.Treated.{IsMet}
use Rattle.sweep_labels.specs.declared.label.KeptLabel.{KeptLabel}
use Rattle.sweep_labels.specs.Labels.{label_of}
use Rattle.sweep_labels.specs.Sweeping.{labels_of, AreTreated}

-- labels were appended, and the goal is no higher
pub record HasGrown (items : List KeptLabel) (goal : ℕ) (longer : List KeptLabel) (lower : ℕ) : Type 0 where
  pub more : List KeptLabel
  pub appended : longer ≡ items ++ more
  pub low : lower ≤ goal

-- The label is kept: whatever the instance and the cuts, it is met, and all labels stay open or treated.
pub record IsKept (l : KeptLabel) (items : List KeptLabel) (was : List Bool) (goal : ℕ) (longer : List KeptLabel) (flags : List Bool) (lower : ℕ) : Type 0 where
  pub grown : HasGrown items goal longer lower
  pub level : length flags ≡ length longer
  pub met : (I : Instance) (cuts : List PlainCut) → IsMet I cuts lower (labels_of longer) (label_of l.label)
  pub treated : (I : Instance) (cuts : List PlainCut) → AreTreated I cuts goal items was → AreTreated I cuts lower longer flags
