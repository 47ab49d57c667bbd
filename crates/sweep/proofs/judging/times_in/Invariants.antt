use Rattle.std.proofs.Common.{◌≡◌, ◌+◌, drop}
use Rattle.lock_rules.specs.Plan.{times_in}
use Rattle.sweep.proofs.judging.times_in.Given as goal

abbrev pub invariant-loop-other : goal.invariant-loop-other
invariant-loop-other l = l.times + times_in (drop l.other-index l.ships) l.ship ≡ times_in l.ships l.ship
