use Rattle.std.proofs.Common.{◌≡◌, ◌*◌, ◌≤ℤ◌, pos, neg_ℤ, take}
use Rattle.diff_rules.specs.Differences.{total_of}
use Rattle.place_refute.proofs.walk.total_of.Given as goal

abbrev pub invariant-loop-number : goal.invariant-loop-number
invariant-loop-number l = record {
  sum : l.total ≡ total_of l.edges (take l.number-index l.numbers);
  low : neg_ℤ (pos (9223372036854775808 * l.number-index)) ≤ℤ l.total;
  high : l.total ≤ℤ pos (9223372036854775808 * l.number-index);
}
