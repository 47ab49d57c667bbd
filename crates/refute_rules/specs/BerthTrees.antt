-- Berth trees as lists of numbers, one node after the other.
use Rattle.std.specs.Prelude.{ℕ, zero, suc, ◌≡◌, ◌≢◌, ◌<◌, ◌⊎◌, List, [], ◌∷◌, ◌++◌, length, map, None}
use Rattle.lock_model.specs.Deck.{Deck}
use Rattle.refute_rules.specs.declared.choices.Choice.{Choice}
use Rattle.refute_rules.specs.declared.choices.Choice.TheVariants.{Lies, Before}
use Rattle.refute_rules.specs.Choices.{berths_of}
use Rattle.refute_rules.specs.Decided.{berth_in}
use Rattle.refute_rules.specs.Trees.{AreInOrder, IsLeaf}
use Rattle.refute_rules.specs.BerthCases.{HasOrder, DoOverlap}
use Rattle.refute_rules.specs.BerthFaults.{IsBerthFault, berth_fault_numbers}

-- what a split decides: the berth of ship i, or which of ships i and j lies before the other
pub data Split : Type 0 where
  OfBerth : ℕ → Split
  OfOrder : ℕ → ℕ → Split

-- two different ships that overlap, and neither order of them stands in the case
pub record AreUnordered (d : Deck) (case : List Choice) (i j : ℕ) : Type 0 where
  pub different : i ≢ j
  pub overlap : DoOverlap d case i j
  pub not_before : HasOrder case i j → ⊥
  pub not_after : HasOrder case j i → ⊥

-- the case leaves it open
abbrev pub IsOpen : Deck → List Choice → Split → Type 0
IsOpen d case (OfBerth i) = (i < length d.ships) × (berth_in case i ≡ None)
IsOpen d case (OfOrder i j) = AreUnordered d case i j

-- its options in order
abbrev pub split_options : Deck → Split → List Choice
split_options d (OfBerth i) = map (Lies i) (berths_of (length d.ships) i)
split_options d (OfOrder i j) = Before i j ∷ Before j i ∷ []

abbrev pub split_numbers : Split → List ℕ
split_numbers (OfBerth i) = 0 ∷ i ∷ []
split_numbers (OfOrder i j) = 7 ∷ i ∷ j ∷ []

-- A tree of the case of at most so many splits one below the other, and then the rest: a leaf, or an open split and the trees of its options.
abbrev pub IsTreeWithin : Deck → ℕ → List Choice → List ℕ → List ℕ → Type 0
IsTreeWithin d zero case marks rest = IsLeaf (IsBerthFault d) berth_fault_numbers case marks rest
IsTreeWithin d (suc depth) case marks rest =
    IsLeaf (IsBerthFault d) berth_fault_numbers case marks rest
    ⊎ ((split : Split) × IsOpen d case split × (inner : List ℕ) × (marks ≡ split_numbers split ++ inner)
    × AreInOrder (λ choice. IsTreeWithin d depth (case ++ choice ∷ [])) (split_options d split) inner rest)

-- the marks begin with a tree of the case, and the rest follows
abbrev pub BeginsWithTree : Deck → List Choice → List ℕ → List ℕ → Type 0
BeginsWithTree d case marks rest = (depth : ℕ) × IsTreeWithin d depth case marks rest

-- exactly one tree of the case that decides nothing
abbrev pub IsBerthTree : Deck → List ℕ → Type 0
IsBerthTree d marks = BeginsWithTree d [] marks []
