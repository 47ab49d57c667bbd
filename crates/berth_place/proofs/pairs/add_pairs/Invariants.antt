use Rattle.std.proofs.Common.{◌+◌, ◌*◌, ◌≤◌, length}
use Rattle.lock_model.specs.declared.limits.TheConstants.{MOST}
use Rattle.berth_place.specs.Pairs.{ArePairs, ArePartlyPairs}
use Rattle.berth_place.proofs.pairs.add_pairs.Given as goal

abbrev pub invariant-loop-lower : goal.invariant-loop-lower
invariant-loop-lower l = record {
  room : length l.pairs.items ≤ MOST * l.upper + l.lower;
  pairs : ArePairs l.deck l.choices l.pairs.items;
  partly : ArePartlyPairs l.deck l.choices l.pairs.items l.upper l.lower;
}
