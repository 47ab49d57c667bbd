-- What is still to be read of a berth tree.
use Rattle.std.specs.Prelude.{ℕ, ◌≡◌, ◌≤◌, ◌<◌, ◌↔◌, Bool, true, false, nat_eq, if◌then◌else◌, Some, None}
use Rattle.std.specs.Prelude.{List, [], ◌∷◌, ◌++◌, length, drop, take, map, flat_map}
use Rattle.std.specs.declared.option.Option.{Option}
use Rattle.lock_model.specs.Deck.{Deck}
use Rattle.lock_model.specs.declared.placement.Rank.{Rank}
use Rattle.lock_model.specs.declared.placement.Rank.TheVariants.{Left, Right}
use Rattle.lock_model.specs.declared.placement.Moor.{Moor}
use Rattle.lock_model.specs.declared.placement.Moor.TheVariants.{Ship}
use Rattle.lock_rules.specs.Arrival.{numbers_from}
use Rattle.refute_rules.specs.declared.choices.Choice.{Choice}
use Rattle.refute_rules.specs.declared.choices.Choice.TheVariants.{Lies}
use Rattle.refute_rules.specs.Trees.{AreInOrder}
use Rattle.refute_rules.specs.BerthTrees.{Split, split_options, BeginsWithTree}
use Rattle.berth_check.specs.Fronts.{AreAllKnown}
use Rattle.berth_check.specs.declared.pending.Branch.{Branch}

-- the case at hand, and the cases after it
pub record Ahead : Type 0 where
  pub case : List Choice
  pub others : List (List Choice)

-- the cases that are kept as branches of a case, the next one first
abbrev pub cases_after : List Choice → List Branch → List (List Choice)
cases_after case [] = []
cases_after case (b ∷ bs) = (take b.kept case ++ b.choice ∷ []) ∷ cases_after case bs

-- no branch keeps more options than those before it, nor than there are
abbrev pub AreKept : ℕ → List Branch → Type 0
AreKept most [] = Unit {0}
AreKept most (b ∷ bs) = (b.kept ≤ most) × AreKept b.kept bs

-- the next case is at hand, or none was left
abbrev pub IsAdvanced : Ahead → Ahead → Bool → Type 0
IsAdvanced old new true = old.others ≡ new.case ∷ new.others
IsAdvanced old new false = old.others ≡ []

-- the marks are exactly one tree of each of these cases, in order
abbrev pub AreTrees : Deck → List (List Choice) → List ℕ → Type 0
AreTrees d cases marks = AreInOrder (BeginsWithTree d) cases marks []

-- the case with each option of a split
abbrev pub extensions : Deck → List Choice → Split → List (List Choice)
extensions d case split = map (λ choice. case ++ choice ∷ []) (split_options d split)

-- the case with a ship at a berth
abbrev pub with_berth : List Choice → ℕ → Rank → Moor → List Choice
with_berth case ship rank moor = case ++ Lies ship (record { rank = rank; moor = moor }) ∷ []

-- the case with a ship at another one, left and right
abbrev pub host_cases : List Choice → ℕ → ℕ → List (List Choice)
host_cases case ship host = if nat_eq host ship then [] else (with_berth case ship Left (Ship host) ∷ with_berth case ship Right (Ship host) ∷ [])

-- the case with a ship at each other ship of the deck, left and right
abbrev pub all_host_cases : Deck → List Choice → ℕ → List (List Choice)
all_host_cases d case ship = flat_map (host_cases case ship) (numbers_from 0 (length d.ships))

-- what was read leaves these cases and this place of the marks
pub record IsRead (d : Deck) (old new : List (List Choice)) (marks : List ℕ) (at end : ℕ) : Type 0 where
  pub inside : end ≤ length marks
  pub later : at < end
  pub same : AreTrees d old (drop at marks) ↔ AreTrees d new (drop end marks)
  pub known : AreAllKnown d new

-- nothing can be read
pub record IsNoTree (d : Deck) (old : List (List Choice)) (marks : List ℕ) (at : ℕ) : Type 0 where
  pub none : AreTrees d old (drop at marks) → ⊥

abbrev pub IsReadingStep : Deck → List (List Choice) → List (List Choice) → List ℕ → ℕ → Option ℕ → Type 0
IsReadingStep d old new marks at None = IsNoTree d old marks at
IsReadingStep d old new marks at (Some end) = IsRead d old new marks at end
