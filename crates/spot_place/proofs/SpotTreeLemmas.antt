-- A tree of the code's faults is a spot tree.
use Rattle.std.proofs.Common.{ℕ, List, [], ◌∷◌, ◌++◌, length, inl, inr}
use Rattle.lock_model.specs.Deck.{Deck}
use Rattle.refute_rules.specs.declared.choices.Decision.{Decision}
use Rattle.refute_rules.specs.declared.choices.Choice.{Choice}
use Rattle.refute_rules.specs.Choices.{options_of, spot_decisions}
use Rattle.refute_rules.specs.Trees.{AreInOrder, IsTree, IsSpotTree}
use Rattle.refute_rules.specs.SpotFaults.{IsSpotFault, spot_fault_numbers}
use Rattle.spot_place.specs.declared.faults.SpotFault.{SpotFault}
use Rattle.spot_place.specs.Faults.{fault_of}

in_order-as : {X M : Type 0} (Tree Other : X → List M → List M → Type 0) → ((x : X) (marks rest : List M) → Tree x marks rest → Other x marks rest) → (xs : List X) (marks rest : List M) → AreInOrder Tree xs marks rest → AreInOrder Other xs marks rest
in_order-as Tree Other f [] marks rest h = h
in_order-as Tree Other f (x ∷ xs) marks rest h = (h.0, f x marks h.0 h.1, in_order-as Tree Other f xs h.0 rest h.2)

module _ (d : Deck) where
  abbrev IsKeptFault : List Choice → SpotFault → Type 0
  IsKeptFault case fault = IsSpotFault d case (fault_of fault)

  abbrev kept_numbers : SpotFault → List ℕ
  kept_numbers fault = spot_fault_numbers (fault_of fault)

  tree-as : (left : List Decision) (case : List Choice) (marks rest : List ℕ) → IsTree (options_of d) IsKeptFault kept_numbers left case marks rest → IsTree (options_of d) (IsSpotFault d) spot_fault_numbers left case marks rest
  tree-as [] case marks rest h = (fault_of h.0, h.1, h.2)
  tree-as (next ∷ left) case marks rest (inl h) = inl (fault_of h.0, h.1, h.2)
  tree-as (next ∷ left) case marks rest (inr h) =
      inr (h.0, h.1, in_order-as (λ choice. IsTree (options_of d) IsKeptFault kept_numbers left (case ++ choice ∷ [])) (λ choice. IsTree (options_of d) (IsSpotFault d) spot_fault_numbers left (case ++ choice ∷ [])) (λ choice marks rest g. tree-as left (case ++ choice ∷ []) marks rest g) (options_of d next) h.0 rest h.2)

  pub spot_tree : (marks : List ℕ) → IsTree (options_of d) IsKeptFault kept_numbers (spot_decisions (length d.ships)) [] marks [] → IsSpotTree d marks
  spot_tree marks h = tree-as (spot_decisions (length d.ships)) [] marks [] h
