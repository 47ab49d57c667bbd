-- The difference constraints of a deck and of each option.
use Rattle.std.specs.Prelude.{ℕ, ◌+◌, ◌*◌, ℤ, pos, ◌-ℤ◌, neg_ℤ, List, [], ◌∷◌, ◌++◌, length, flat_map}
use Rattle.lock_model.specs.Deck.{Deck}
use Rattle.lock_model.specs.declared.placement.Rank.{Rank}
use Rattle.lock_model.specs.declared.placement.Rank.TheVariants.{Left, Right}
use Rattle.lock_model.specs.declared.placement.Moor.{Moor}
use Rattle.lock_model.specs.declared.placement.Moor.TheVariants.{Quay, Ship}
use Rattle.lock_rules.specs.Arrival.{numbers_from}
use Rattle.diff_rules.specs.declared.edges.Edge.{Edge}
use Rattle.refute_rules.specs.Reasons.{length_at, width_at}
use Rattle.refute_rules.specs.declared.choices.Choice.{Choice}
use Rattle.refute_rules.specs.declared.choices.Choice.TheVariants.{Lies, Before, Below, LiesAt}

-- the variables of ship i; variable 0 is the origin
abbrev pub x_var : ℕ → ℕ
x_var i = 1 + 2 * i

abbrev pub y_var : ℕ → ℕ
y_var i = 2 + 2 * i

abbrev pub edge : ℕ → ℕ → ℤ → Edge
edge u v c = record { from = u; to = v; weight = c }

-- ship i is inside
abbrev pub ship_edges : Deck → ℕ → List Edge
ship_edges d i =
    edge 0 (x_var i) (pos d.end)
    ∷ edge (x_var i) 0 (neg_ℤ (pos d.length -ℤ pos d.end -ℤ pos (length_at d i)))
    ∷ edge 0 (y_var i) (pos 0)
    ∷ edge (y_var i) 0 (neg_ℤ (pos d.width -ℤ pos (width_at d i)))
    ∷ []

-- ship i lies at the quay of a rank, or at a host
abbrev pub berth_edges : Deck → ℕ → Rank → Moor → List Edge
berth_edges d i Left Quay = edge (y_var i) 0 (pos 0) ∷ []
berth_edges d i Right Quay = edge 0 (y_var i) (pos d.width -ℤ pos (width_at d i)) ∷ []
berth_edges d i Left (Ship k) =
    edge (y_var k) (y_var i) (pos (width_at d k + d.side))
    ∷ edge (y_var i) (y_var k) (neg_ℤ (pos (width_at d k + d.side)))
    ∷ edge (x_var k) (x_var i) (pos 0)
    ∷ edge (x_var i) (x_var k) (pos (length_at d i) -ℤ pos (length_at d k))
    ∷ []
berth_edges d i Right (Ship k) =
    edge (y_var i) (y_var k) (pos (width_at d i + d.side))
    ∷ edge (y_var k) (y_var i) (neg_ℤ (pos (width_at d i + d.side)))
    ∷ edge (x_var k) (x_var i) (pos 0)
    ∷ edge (x_var i) (x_var k) (pos (length_at d i) -ℤ pos (length_at d k))
    ∷ []

-- the edges of an option; a decided x is no matter of edges
abbrev pub choice_edges : Deck → Choice → List Edge
choice_edges d (Lies i b) = berth_edges d i b.rank b.moor
choice_edges d (Before i j) = edge (x_var i) (x_var j) (pos (length_at d i + d.gap)) ∷ []
choice_edges d (Below i j) = edge (y_var i) (y_var j) (pos (width_at d i + d.side)) ∷ []
choice_edges d (LiesAt i v) = []

-- the edges of a case: four for each ship, then those of its options in order
abbrev pub case_edges : Deck → List Choice → List Edge
case_edges d case = flat_map (ship_edges d) (numbers_from 0 (length d.ships)) ++ flat_map (choice_edges d) case
