use Rattle.std.proofs.Common.{◌≤◌, length}
use Rattle.berth_place.proofs.PairLemmas.{ArePartlyKept}
use Rattle.berth_place.proofs.pairs.without.Given as goal

abbrev pub invariant-loop-place : goal.invariant-loop-place
invariant-loop-place l = record {
  room : length l.left.items ≤ l.place;
  partly : ArePartlyKept l.pairs l.number l.left.items l.place;
}
