-- A list of labels that a sweep has made, and which of them it is done with.
use Rattle.std.specs.Prelude.{ℕ, ◌≡◌, ◌≤◌, ◌<◌, ◌⊎◌, false, List, length, slice_index_or}
use Rattle.lock_model.specs.declared.instance.Instance.{Instance}
use Rattle.price_rules.specs.Prices.{PlainCut}
use Rattle.sweep_rules.specs.Label.{Label}
use Rattle.sweep_rules.specs.Completion.{EndsBelow}
use Rattle.sweep_rules.specs.Gain.{ships_missing}

abbrev pub no_label : Label
no_label = record { served = λ s. false; ready = λ c way. 0; flow = 0 }

-- the label at a place of the list
abbrev pub label_at : List Label → ℕ → Label
label_at labels k = slice_index_or labels k no_label

-- how many ships a label misses
abbrev pub missing_count : Instance → Label → ℕ
missing_count I label = length (ships_missing I label.served)

-- A label of the list that misses no more ships has a completion of a total below the goal.
pub record IsMetBelow (I : Instance) (cuts : List PlainCut) (goal : ℕ) (labels : List Label) (label : Label) : Type 0 where
  pub place : ℕ
  pub within : place < length labels
  pub ends : EndsBelow I cuts goal (label_at labels place)
  pub fewer : missing_count I (label_at labels place) ≤ missing_count I label

-- The list meets the label: where that has a completion below some total up to the goal, a label of the list that misses no more ships has one.
pub record IsMet (I : Instance) (cuts : List PlainCut) (goal : ℕ) (labels : List Label) (label : Label) : Type 0 where
  pub by : (total : ℕ) → total ≤ goal → EndsBelow I cuts total label → IsMetBelow I cuts total labels label

-- A label further on in the sweep has a completion of a total below the goal: it misses fewer ships, or as many and stands later in the list.
pub record IsLedBelow (I : Instance) (cuts : List PlainCut) (goal : ℕ) (labels : List Label) (k : ℕ) : Type 0 where
  pub place : ℕ
  pub within : place < length labels
  pub ends : EndsBelow I cuts goal (label_at labels place)
  pub further : (missing_count I (label_at labels place) < missing_count I (label_at labels k))
      ⊎ ((missing_count I (label_at labels place) ≡ missing_count I (label_at labels k)) × (k < place))

-- The label at place k is treated: where it has a completion below some total up to the goal, a label further on has one.
pub record IsTreated (I : Instance) (cuts : List PlainCut) (goal : ℕ) (labels : List Label) (k : ℕ) : Type 0 where
  pub on : (total : ℕ) → total ≤ goal → EndsBelow I cuts total (label_at labels k) → IsLedBelow I cuts total labels k
