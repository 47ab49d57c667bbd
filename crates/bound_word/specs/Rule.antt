-- The rule over the word and all views.
use Rattle.std.specs.Prelude.{ℕ, ◌≡◌, ◌+◌, ◌<◌, ◌≤◌, ◌⊎◌, min, List, [], ◌∷◌}
use mathlib.Core.Option.{some}
use lib.ListN.{get_elem?}
use Rattle.atomic_table.specs.Table.{State}
use Rattle.bound_word.specs.declared.view.View.{View}
use Rattle.bound_word.specs.declared.view.Opening.{Opening}
use Rattle.bound_word.specs.Views.{least, spent_view}

-- the least of n and of all numbers posted in the views
abbrev pub least_posted : ℕ → List View → ℕ
least_posted n [] = n
least_posted n (v ∷ vs) = min (least n v.posted) (least_posted n vs)

-- the sum of the parts
abbrev pub parts_of : List View → ℕ
parts_of [] = 0
parts_of (v ∷ vs) = v.parts + parts_of vs

-- a view that isn't spent: it has a part, the word is at most what it has seen, and it carries what the table was opened with
pub record IsLive (o : Opening) (word : ℕ) (v : View) : Type 0 where
  pub some_part : 0 < v.parts
  pub seen : word ≤ v.seen
  pub opening : v.opening ≡ o.number
  pub whole : v.whole ≡ o.parts

-- the word is the least of the opening number and of all that was posted, the parts sum to all parts, and each view is live or spent
pub record KeepsViews (o : Opening) (s : State ℕ View) : Type 0 where
  pub word : s.words ≡ least_posted o.number s.views ∷ []
  pub parts : parts_of s.views ≡ o.parts
  pub each : (j : ℕ) (v : View) → get_elem? s.views j ≡ some v → IsLive o (least_posted o.number s.views) v ⊎ (v ≡ spent_view)
