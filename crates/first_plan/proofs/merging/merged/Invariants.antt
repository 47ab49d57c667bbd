use Rattle.lock_rules.specs.Plan.{cost_of}
use Rattle.first_plan.specs.Merging.{IsAtMost}
use Rattle.first_plan.proofs.merging.merged.Given as goal

abbrev pub invariant-loop : goal.invariant-loop
invariant-loop l = IsAtMost l.instance (cost_of l.instance l.fn.plan) l.plan
