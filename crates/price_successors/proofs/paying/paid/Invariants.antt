use Rattle.std.proofs.Common.{◌≡◌, ◌*◌, ◌≤◌, take, sum_by}
use Rattle.price_groups.specs.Sums.{rate_of}
use Rattle.price_successors.proofs.paying.paid.Given as goal

abbrev pub invariant-loop-ship : goal.invariant-loop-ship
invariant-loop-ship l = record {
  sum : l.sum ≡ sum_by (rate_of l.extension.case.now.instance.now l.extension.case.now.depth l.extension.case.now.prices.now) (take l.ship-index l.ships);
  small : l.sum ≤ l.ship-index * 101000000;
}
