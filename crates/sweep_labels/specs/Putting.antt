-- What becomes of the labels as one is put to them.
use Rattle.std.specs.Prelude.{ℕ, ◌≡◌, ◌<◌, ◌⊎◌, Bool, true, false, Option, Some, None, List, [], ◌∷◌, ◌++◌, length, slice_index_or}
use Rattle.sweep_labels.specs.declared.label.KeptLabel.{KeptLabel}
use Rattle.sweep_labels.specs.Labels.{Dominates}

-- one label dominates the other
abbrev pub Outdoes : KeptLabel → KeptLabel → Type 0
Outdoes a b = Dominates a.label b.label

-- whether the label at place k is open
abbrev pub open_at : List Bool → ℕ → Bool
open_at flags k = slice_index_or flags k false

-- a label of the list dominates this one
pub record IsDominatedIn (items : List KeptLabel) (l : KeptLabel) : Type 0 where
  pub place : ℕ
  pub within : place < length items
  pub by : Outdoes (slice_index_or items place l) l

-- labels were closed, and only such as this one dominates
pub record AreClosedBy (items : List KeptLabel) (l : KeptLabel) (before after : List Bool) : Type 0 where
  pub level : length after ≡ length before
  pub each : (k : ℕ) → k < length items → (open_at after k ≡ open_at before k) ⊎ Outdoes l (slice_index_or items k l)

-- The label was appended and is open; labels were closed, and only such as it dominates.
pub record IsAdded (l : KeptLabel) (items : List KeptLabel) (was : List Bool) (more : List KeptLabel) (after : List Bool) : Type 0 where
  pub longer : more ≡ items ++ l ∷ []
  pub level : length after ≡ length more
  pub own : open_at after (length items) ≡ true
  pub each : (k : ℕ) → k < length items → (open_at after k ≡ open_at was k) ⊎ Outdoes l (slice_index_or items k l)

-- The label wasn't appended, as one of the list dominates it; nothing else changed.
pub record IsLeftOut (l : KeptLabel) (items : List KeptLabel) (was : List Bool) (more : List KeptLabel) (after : List Bool) : Type 0 where
  pub dominated : IsDominatedIn items l
  pub same : more ≡ items
  pub flags : after ≡ was

-- what became of the label: its number, where it was appended
abbrev pub IsPut : KeptLabel → List KeptLabel → List Bool → List KeptLabel → List Bool → Option ℕ → Type 0
IsPut l items was more after None = IsLeftOut l items was more after
IsPut l items was more after (Some n) = (n ≡ length items) × IsAdded l items was more after
