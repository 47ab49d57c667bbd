-- Berth trees that a search left unfinished, and how many nodes they have.
use Rattle.std.specs.Prelude.{ℕ, zero, suc, ◌≡◌, ◌+◌, ◌<◌, ◌⊎◌, List, [], ◌∷◌, ◌++◌, length, take, slice_index_or, nat_eq, if◌then◌else◌}
use Rattle.lock_model.specs.Deck.{Deck}
use Rattle.refute_rules.specs.declared.choices.Choice.{Choice}
use Rattle.refute_rules.specs.declared.choices.Choice.TheVariants.{Before}
use Rattle.refute_rules.specs.Trees.{AreInOrder}
use Rattle.refute_rules.specs.BerthTrees.{Split, IsOpen, split_options, split_numbers, BeginsWithTree}

-- how many numbers follow the kind of a node
abbrev pub follow_count : ℕ → ℕ
follow_count kind = if nat_eq kind 8 then 0 else (if nat_eq kind 7 then 2 else 1)

-- how many nodes some numbers have behind those that belong to the node before
abbrev pub nodes_behind : ℕ → List ℕ → ℕ
nodes_behind skipped [] = 0
nodes_behind zero (kind ∷ rest) = 1 + nodes_behind (follow_count kind) rest
nodes_behind (suc skipped) (number ∷ rest) = nodes_behind skipped rest

-- how many nodes, splits and leaves, stand in the marks
abbrev pub node_count : List ℕ → ℕ
node_count marks = nodes_behind 0 marks

-- an open split, trees of its first options, and then what is told of the next one, or nothing yet
pub record IsBrokenOff (d : Deck) (case : List Choice) (IsNext : Choice → List ℕ → Type 0) (marks : List ℕ) : Type 0 where
  pub split : Split
  pub is_open : IsOpen d case split
  pub inner : List ℕ
  pub told : marks ≡ split_numbers split ++ inner
  pub done : ℕ
  pub fewer : done < length (split_options d split)
  pub rest : List ℕ
  pub trees : AreInOrder (λ choice. BeginsWithTree d (case ++ choice ∷ [])) (take done (split_options d split)) inner rest
  pub next : (rest ≡ []) ⊎ IsNext (slice_index_or (split_options d split) done (Before 0 0)) rest

-- an unfinished tree of the case, of at most so many splits one below the other
abbrev pub IsUnfinishedWithin : Deck → ℕ → List Choice → List ℕ → Type 0
IsUnfinishedWithin d zero case marks = ⊥
IsUnfinishedWithin d (suc depth) case marks = IsBrokenOff d case (λ choice rest. IsUnfinishedWithin d depth (case ++ choice ∷ []) rest) marks

abbrev pub IsUnfinished : Deck → List Choice → List ℕ → Type 0
IsUnfinished d case marks = (depth : ℕ) × IsUnfinishedWithin d depth case marks
