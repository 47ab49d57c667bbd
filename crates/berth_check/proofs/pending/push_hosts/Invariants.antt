use Rattle.std.proofs.Common.{◌≡◌, ◌≤◌, ◌++◌, length}
use Rattle.berth_check.proofs.PendingLemmas.{hosts_from}
use Rattle.berth_check.proofs.pending.push_hosts.Given as goal

abbrev pub decreases-loop-host : goal.decreases-loop-host
decreases-loop-host l = l.host

abbrev pub invariant-loop-host : goal.invariant-loop-host
invariant-loop-host l = record {
  few : l.host ≤ length l.deck.ships;
  case : l.pending.case ≡ l.fn.pending.case;
  pushed : l.pending.others ≡ hosts_from l.fn.pending.case l.ship l.host (length l.deck.ships) ++ l.fn.pending.others;
}
