-- The difference constraints of a berth case along the chamber.
use Rattle.std.specs.Prelude.{ℕ, ◌+◌, ◌≡◌, ◌<◌, ℤ, pos, ◌-ℤ◌, neg_ℤ, List, [], ◌∷◌, ◌++◌, length, flat_map, Some, None}
use Rattle.std.specs.declared.option.Option.{Option}
use Rattle.lock_model.specs.Deck.{Deck}
use Rattle.lock_rules.specs.Arrival.{numbers_from}
use Rattle.diff_rules.specs.declared.edges.Edge.{Edge}
use Rattle.diff_rules.specs.Differences.{value_at}
use Rattle.refute_rules.specs.Reasons.{length_at}
use Rattle.refute_rules.specs.declared.choices.Choice.{Choice}
use Rattle.refute_rules.specs.declared.choices.Choice.TheVariants.{Lies, Before, Below, LiesAt}
use Rattle.refute_rules.specs.Edges.{edge}
use Rattle.refute_rules.specs.BerthCases.{host_in}

-- the variable of ship i's x; variable 0 is the origin
abbrev pub place_var : ℕ → ℕ
place_var i = 1 + i

abbrev pub place_count : Deck → ℕ
place_count d = 1 + length d.ships

-- ship i is inside along the chamber
abbrev pub inside_edges : Deck → ℕ → List Edge
inside_edges d i =
    edge 0 (place_var i) (pos d.end)
    ∷ edge (place_var i) 0 (neg_ℤ (pos d.length -ℤ pos d.end -ℤ pos (length_at d i)))
    ∷ []

-- ship i lies within its decided host
abbrev pub host_edges : Deck → ℕ → Option ℕ → List Edge
host_edges d i None = []
host_edges d i (Some k) =
    edge (place_var k) (place_var i) (pos 0)
    ∷ edge (place_var i) (place_var k) (pos (length_at d i) -ℤ pos (length_at d k))
    ∷ []

abbrev pub berth_edges : Deck → List Choice → ℕ → List Edge
berth_edges d case i = inside_edges d i ++ host_edges d i (host_in case i)

-- ship i lies before ship j
abbrev pub order_edge : Deck → ℕ → ℕ → Edge
order_edge d i j = edge (place_var i) (place_var j) (pos (length_at d i + d.gap))

abbrev pub order_edges : Deck → List Choice → List Edge
order_edges d [] = []
order_edges d (Lies i b ∷ cs) = order_edges d cs
order_edges d (Before i j ∷ cs) = order_edge d i j ∷ order_edges d cs
order_edges d (Below i j ∷ cs) = order_edges d cs
order_edges d (LiesAt i v ∷ cs) = order_edges d cs

-- the edges of the first ships' berths
abbrev pub first_edges : Deck → List Choice → ℕ → List Edge
first_edges d case n = flat_map (berth_edges d case) (numbers_from 0 n)

-- the edges of all ships' berths, then those of the orders
abbrev pub along_edges : Deck → List Choice → List Edge
along_edges d case = first_edges d case (length d.ships) ++ order_edges d case

-- the values put the ships at these places
pub record AreValuesOf (d : Deck) (values : List ℤ) (x : ℕ → ℕ) : Type 0 where
  pub value : (i : ℕ) → i < length d.ships → value_at values (place_var i) ≡ pos (x i)
