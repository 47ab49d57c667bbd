-- The edges of a case as it grows and shrinks.
use Rattle.std.proofs.Common.{◌≡◌, ℕ, zero, suc, ◌+◌, ◌*◌, ◌<◌, ◌≤◌, List, [], ◌∷◌, ◌++◌, length, flat_map, refl, sym, ap, ◌∙◌, arith}
use Rattle.std.proofs.lemmas.List.{append-nil, length-append}
use Rattle.std.proofs.lemmas.Grind.{flat_map-append}
use Rattle.lock_model.specs.declared.limits.TheConstants.{DECISIONS, MOST}
use Rattle.lock_model.specs.Deck.{Deck}
use Rattle.lock_model.specs.declared.placement.Rank.{Rank}
use Rattle.lock_model.specs.declared.placement.Rank.TheVariants.{Left, Right}
use Rattle.lock_model.specs.declared.placement.Moor.{Moor}
use Rattle.lock_model.specs.declared.placement.Moor.TheVariants.{Quay, Ship}
use Rattle.diff_rules.specs.declared.edges.Edge.{Edge}
use Rattle.lock_rules.specs.Arrival.{numbers_from}
use Rattle.lock_rules.proofs.LineLemmas.{numbers_more}
use Rattle.refute_rules.specs.declared.choices.Choice.{Choice}
use Rattle.refute_rules.specs.declared.choices.Choice.TheVariants.{Lies, Before, Below, LiesAt}
use Rattle.refute_rules.specs.Edges.{ship_edges, berth_edges, choice_edges}
use Rattle.place_refute.specs.declared.edge_list.TheConstants.{EDGES}
use Rattle.place_refute.specs.Drawn.{Drawn, IsDrawn, deck_edges}

pub edges_more : (d : Deck) (es : List Edge) (n : ℕ) → es ≡ deck_edges d n → es ++ ship_edges d n ≡ deck_edges d (n + 1)
edges_more d es n e =
    let here : 0 + n ≡ n = omega arith in
    ap (λ u. u ++ ship_edges d n) e
    ∙ ap (λ u. deck_edges d n ++ u) (sym (append-nil (ship_edges d n)))
    ∙ sym (flat_map-append (ship_edges d) (numbers_from 0 n) (n ∷ []))
    ∙ ap (flat_map (ship_edges d)) (sym (numbers_more 0 n ∙ ap (λ k. numbers_from 0 n ++ k ∷ []) here))

ships-length : (d : Deck) (low n : ℕ) → length (flat_map (ship_edges d) (numbers_from low n)) ≡ 4 * n
ships-length d low zero = refl
ships-length d low (suc n) = omega (arith, ships-length d (suc low) n)

pub edges_room : (d : Deck) (es : List Edge) (n : ℕ) → es ≡ deck_edges d n → n < MOST → length es + 4 ≤ EDGES
edges_room d es n e less = omega (arith, ap length e, ships-length d 0 n)

berth-few : (d : Deck) (i : ℕ) (rank : Rank) (moor : Moor) → length (berth_edges d i rank moor) ≤ 4
berth-few d i Left Quay = omega arith
berth-few d i Right Quay = omega arith
berth-few d i Left (Ship k) = omega arith
berth-few d i Right (Ship k) = omega arith

choice-few : (d : Deck) (c : Choice) → length (choice_edges d c) ≤ 4
choice-few d (Lies i b) = berth-few d i b.rank b.moor
choice-few d (Before i j) = omega arith
choice-few d (Below i j) = omega arith
choice-few d (LiesAt i v) = omega arith

choices-few : (d : Deck) (cs : List Choice) → length (flat_map (choice_edges d) cs) ≤ 4 * length cs
choices-few d [] = omega arith
choices-few d (c ∷ cs) = omega (arith, length-append (choice_edges d c) (flat_map (choice_edges d) cs), choice-few d c, choices-few d cs)

-- a case of a deck that isn't whole has room for the edges of one more
pub drawn_room : (d : Deck) (case : Drawn) → IsDrawn d case → length d.ships ≤ MOST → length case.choices < DECISIONS → length case.edges + 4 ≤ EDGES
drawn_room d case is few less =
    omega (arith, ap length is.drawn, length-append (deck_edges d (length d.ships)) (flat_map (choice_edges d) case.choices), ships-length d 0 (length d.ships), choices-few d case.choices)

pub empty_drawn : (d : Deck) → IsDrawn d (record { choices = []; edges = deck_edges d (length d.ships) })
empty_drawn d = record { drawn = sym (append-nil (deck_edges d (length d.ships))) }
