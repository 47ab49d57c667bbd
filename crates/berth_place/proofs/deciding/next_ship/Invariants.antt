use Rattle.std.proofs.Common.{IfSome, IfNone}
use Rattle.refute_rules.specs.BerthTrees.{OfBerth, IsOpen}
use Rattle.berth_place.specs.Known.{AreDecided}
use Rattle.berth_place.proofs.deciding.next_ship.Given as goal

abbrev pub invariant-loop-ship : goal.invariant-loop-ship
invariant-loop-ship l = record {
  some : IfSome l.next (λ i. IsOpen l.deck l.choices (OfBerth i));
  none : IfNone l.next (AreDecided l.choices l.ship);
}
