use Rattle.std.proofs.Common.{◌≡◌, ◌+◌, ◌*◌, ◌<◌, ◌≤◌, ℕ, true}
use Rattle.lock_model.specs.Fleet.{ship_at}
use Rattle.price_rules.specs.Prices.{is_missing, price_at}
use Rattle.price_table.proofs.horizon.horizon.Given as goal

abbrev pub invariant-loop-ship : goal.invariant-loop-ship
invariant-loop-ship l = record {
  late : (s : ℕ) → s < l.ship → is_missing l.case.instance.now l.case.depth s ≡ true → price_at l.case.prices.now s + 100 * (ship_at l.case.instance.now s).arrival ≤ 100 * l.latest;
  small : l.latest ≤ 1010000;
}
