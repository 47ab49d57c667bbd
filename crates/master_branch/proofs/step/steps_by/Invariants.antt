use Rattle.std.proofs.Common.{◌≡◌}
use Rattle.std.specs.List.{flat_map}
use Rattle.lock_rules.specs.Arrival.{numbers_from}
use Rattle.master_branch.specs.Steps.{steps_at}
use Rattle.master_branch.proofs.step.steps_by.Given as goal

abbrev pub invariant-loop-chamber : goal.invariant-loop-chamber
invariant-loop-chamber l = l.steps ≡ flat_map (steps_at l.instance l.ship l.node.lines) (numbers_from 0 l.chamber)
