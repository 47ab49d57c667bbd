-- What each atomic step tells the seat that makes it: the number found in the word, and the seat's view after it.
use Rattle.std.specs.Prelude.{ℕ, ◌≡◌, ◌≤◌, min}
use Rattle.atomic_table.specs.Table.{Step, Me}
use Rattle.bound_word.specs.declared.view.View.{View}
use Rattle.bound_word.specs.Views.{least, with_seen, with_post}

-- a seat with all parts finds the least of the opening number and of all that it posted
abbrev pub FindsOwn : View → ℕ → Type 0
FindsOwn v found = v.parts ≡ v.whole → found ≡ least v.opening v.posted

-- a load: the number found is at most all that the seat had seen and posted, and is then the least seen
abbrev pub Loads : Step ℕ → Me ℕ View → ℕ → Me ℕ View → Type 0
Loads s v found w = (found ≤ v.0.seen) × (found ≤ least v.0.opening v.0.posted) × FindsOwn v.0 found × (w ≡ (with_seen v.0 found, v.1))

-- a load that tells only that the seat has no more than all parts
abbrev pub Counts : Step ℕ → Me ℕ View → ℕ → Me ℕ View → Type 0
Counts s v found w = (v.0.parts ≤ v.0.whole) × (w ≡ v)

-- a fetch_min, which posts the number `first` of the step: the number found is as in a load, and the less of the two is then the least seen
abbrev pub Lowers : Step ℕ → Me ℕ View → ℕ → Me ℕ View → Type 0
Lowers s v found w = (found ≤ v.0.seen) × (found ≤ least v.0.opening v.0.posted) × FindsOwn v.0 found × (w ≡ (with_post v.0 (min found s.first) s.first, v.1))
