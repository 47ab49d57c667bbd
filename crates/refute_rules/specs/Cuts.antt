-- Cuts with their refutations.
use Rattle.std.specs.Prelude.{ℕ, ◌≡◌, List, length}
use Rattle.std.specs.List.Sorted.{IsStrictlyIncreasing}
use Rattle.lock_model.specs.Deck.{Deck, IsDeck}
use Rattle.refute_rules.specs.declared.refutation.Refutation.{Refutation}
use Rattle.refute_rules.specs.Refutes.{IsRefuted}

-- A cut: ships of a chamber, their deck, and a refutation of it.
pub record Cut : Type 0 where
  pub chamber : ℕ
  pub ships : List ℕ
  pub deck : Deck
  pub refutation : Refutation

-- what a cut keeps: rising ships, a deck within the limits with one size for each of them, and a refutation that holds
pub record IsCut (c : Cut) : Type 0 where
  pub rising : IsStrictlyIncreasing c.ships
  pub deck : IsDeck c.deck
  pub count : length c.ships ≡ length c.deck.ships
  pub refuted : IsRefuted c.deck c.refutation
