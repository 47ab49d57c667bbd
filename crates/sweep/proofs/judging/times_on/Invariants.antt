use Rattle.std.proofs.Common.{◌≡◌, ◌+◌, drop}
use Rattle.lock_rules.specs.Node.{times_on}
use Rattle.sweep.proofs.judging.times_on.Given as goal

abbrev pub invariant-loop-group : goal.invariant-loop-group
invariant-loop-group l = l.times + times_on l.ship (drop l.group-index l.line) ≡ times_on l.ship l.line
