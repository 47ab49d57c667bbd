use Rattle.std.proofs.Common.{◌≡◌, ◌*◌, ◌≤◌, take, sum_by}
use Rattle.price_rules.specs.Prices.{price_at}
use Rattle.sweep_arcs.proofs.listing.paid.Given as goal

abbrev pub invariant-loop-ship : goal.invariant-loop-ship
invariant-loop-ship l = record {
  sum : l.sum ≡ sum_by (price_at l.case.prices.now) (take l.ship-index l.ship-items);
  small : l.sum ≤ l.ship-index * 1000000;
}
