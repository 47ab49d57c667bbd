use Rattle.std.proofs.Common.{◌≡◌, ◌++◌, map}
use Rattle.master_branch.specs.declared.step.Step.TheVariants.{Join}
use Rattle.master_branch.specs.Steps.{places_to_join}
use Rattle.master_branch.proofs.step.push_joins.Given as goal

abbrev pub invariant-loop-place : goal.invariant-loop-place
invariant-loop-place l = l.steps ≡ l.initial.steps ++ map (λ place. Join l.chamber place) (places_to_join l.most l.way l.line l.place)
