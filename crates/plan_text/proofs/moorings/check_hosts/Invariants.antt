use Rattle.std.proofs.Common.{◌≡◌, drop}
use Rattle.plan_text.specs.Berths.{check_hosts}
use Rattle.plan_text.proofs.moorings.check_hosts.Given as goal

abbrev pub invariant-loop-berth : goal.invariant-loop-berth
invariant-loop-berth l = check_hosts l.berths (drop l.berth-index l.berths) ≡ check_hosts l.berths l.berths
