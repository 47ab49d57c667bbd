use Rattle.std.proofs.Common.{◌≡◌, ◌≤◌, ◌*◌, sum_by, filter}
use Rattle.lock_rules.specs.Arrival.{numbers_from}
use Rattle.refute_rules.specs.BerthCases.{host_in, is_ship}
use Rattle.berth_check.proofs.CrowdLemmas.{span}
use Rattle.berth_check.proofs.spans.guests_span.Given as goal

abbrev pub invariant-loop-ship : goal.invariant-loop-ship
invariant-loop-ship l = record {
  sum : l.total ≡ sum_by (span l.deck (λ i. is_ship l.host (host_in l.choices i))) (filter (λ i. is_ship l.host (host_in l.choices i)) (numbers_from 0 l.ship));
  few : l.total ≤ 8589934592 * l.ship;
}
