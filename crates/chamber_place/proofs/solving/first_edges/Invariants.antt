use Rattle.std.proofs.Common.{◌≡◌, flat_map}
use Rattle.lock_rules.specs.Arrival.{numbers_from}
use Rattle.refute_rules.specs.Edges.{ship_edges}
use Rattle.chamber_place.proofs.solving.first_edges.Given as goal

abbrev pub invariant-loop-ship : goal.invariant-loop-ship
invariant-loop-ship l = l.edges ≡ flat_map (ship_edges l.deck) (numbers_from 0 l.ship)
