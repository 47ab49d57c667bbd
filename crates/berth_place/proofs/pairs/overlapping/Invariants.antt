use Rattle.std.proofs.Common.{◌*◌, ◌≤◌, length}
use Rattle.lock_model.specs.declared.limits.TheConstants.{MOST}
use Rattle.berth_place.specs.Pairs.{ArePairs, AreAllPairs}
use Rattle.berth_place.proofs.pairs.overlapping.Given as goal

abbrev pub invariant-loop-upper : goal.invariant-loop-upper
invariant-loop-upper l = record {
  room : length l.pairs.items ≤ MOST * l.upper;
  pairs : ArePairs l.deck l.choices l.pairs.items;
  all : AreAllPairs l.deck l.choices l.pairs.items l.upper;
}
