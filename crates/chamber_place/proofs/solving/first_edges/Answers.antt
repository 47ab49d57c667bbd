use Rattle.std.proofs.Common.{rules, ◌≡◌, ◌≤◌, ◌++◌, length, sym, ap, ◌∙◌, subst, flat_map, append-nil, arith}
use Rattle.lock_rules.specs.Arrival.{numbers_from}
use Rattle.refute_rules.specs.Edges.{ship_edges}
use Rattle.chamber_place.proofs.EdgeLemmas.{first-edges-few}
use Rattle.chamber_place.proofs.WayLemmas.{ship-edges-push}
use Rattle.chamber_place.proofs.solving.first_edges.Goals as goal

pub push_ship-requires-clause-room : goal.push_ship-requires-clause-room
push_ship-requires-clause-room c =
    let room = subst (λ es. length es ≤ 92) (sym c.loop-ship.invariant) (first-edges-few c.args.deck.now c.loop-ship.ship (search rules)) in
    omega (arith, room)

pub loop-ship-preserved : goal.loop-ship-preserved
loop-ship-preserved c = c.push_ship.ensures ∙ ap (λ es. es ++ ship_edges c.args.deck.now c.loop-ship.ship) c.loop-ship.invariant ∙ sym (ship-edges-push c.args.deck.now c.loop-ship.ship)

pub returns : goal.returns
returns c =
    let all : c.loop-ship.ship ≡ length c.args.deck.now.ships = search rules in
    c.loop-ship.invariant ∙ ap (λ n. flat_map (ship_edges c.args.deck.now) (numbers_from 0 n)) all ∙ sym (append-nil (flat_map (ship_edges c.args.deck.now) (numbers_from 0 (length c.args.deck.now.ships))))
