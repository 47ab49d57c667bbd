use Rattle.std.proofs.Common.{◌≡◌}
use Rattle.deck_laws.specs.Reach.{reached_of}
use Rattle.deck_laws.proofs.values.reached_places.Given as goal

abbrev pub invariant-loop-place : goal.invariant-loop-place
invariant-loop-place l = l.items.items ≡ reached_of l.rounds l.place
