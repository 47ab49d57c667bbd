-- A case with its edges.
use Rattle.std.specs.Prelude.{ℕ, ◌≡◌, List, flat_map}
use Rattle.lock_model.specs.Deck.{Deck}
use Rattle.diff_rules.specs.declared.edges.Edge.{Edge}
use Rattle.lock_rules.specs.Arrival.{numbers_from}
use Rattle.refute_rules.specs.declared.choices.Choice.{Choice}
use Rattle.refute_rules.specs.Edges.{ship_edges, case_edges}

pub record Drawn : Type 0 where
  pub choices : List Choice
  pub edges : List Edge

-- the edges are those of the case
pub record IsDrawn (d : Deck) (case : Drawn) : Type 0 where
  pub drawn : case.edges ≡ case_edges d case.choices

-- the edges that keep the first ships inside
abbrev pub deck_edges : Deck → ℕ → List Edge
deck_edges d n = flat_map (ship_edges d) (numbers_from 0 n)
