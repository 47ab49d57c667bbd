use Rattle.std.proofs.Common.{arith}
use Rattle.std.proofs.lemmas.Int.{ints, to_z-of_z}
use Rattle.place_refute.proofs.WalkLemmas.{total_more}
use Rattle.place_refute.proofs.walk.total_of.Goals as goal

pub loop-number-preserved : goal.loop-number-preserved
loop-number-preserved c = record {
  sum = grind (arith, ints, to_z-of_z, total_more);
  low = omega (arith, ints);
  high = omega (arith, ints);
}
