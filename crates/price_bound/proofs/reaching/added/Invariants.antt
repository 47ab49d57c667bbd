use Rattle.std.proofs.Common.{◌*◌, ◌≤ℤ◌, pos, neg_ℤ}
use Rattle.price_table.specs.Values.{most_worth}
use Rattle.price_bound.specs.Asked.{node_asked}
use Rattle.price_bound.specs.Total.{IsLeastSum}
use Rattle.price_bound.proofs.reaching.added.Given as goal

abbrev pub invariant-loop-chamber : goal.invariant-loop-chamber
invariant-loop-chamber l = record {
  sum : IsLeastSum (node_asked l.asked) l.chamber l.sum;
  low : neg_ℤ (pos (816080000000000 * l.chamber)) ≤ℤ l.sum;
  high : l.sum ≤ℤ pos (most_worth * l.chamber);
}
