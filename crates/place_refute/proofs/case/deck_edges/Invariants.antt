use Rattle.std.proofs.Common.{◌≡◌}
use Rattle.place_refute.specs.Drawn.{deck_edges}
use Rattle.place_refute.proofs.case.deck_edges.Given as goal

abbrev pub invariant-loop-ship : goal.invariant-loop-ship
invariant-loop-ship l = l.edges ≡ deck_edges l.deck l.ship
