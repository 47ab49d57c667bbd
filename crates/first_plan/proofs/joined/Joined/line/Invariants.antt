use Rattle.std.proofs.Common.{◌<◌, ◌≤◌, All, length}
use Rattle.lock_model.specs.declared.group.Group.{Group}
use Rattle.first_plan.proofs.joined.Joined.line.Given as goal

abbrev pub invariant-loop-i : goal.invariant-loop-i
invariant-loop-i l = (length l.line ≤ l.i) × All (λ (g : Group). All (λ s. s < length l.instance.ships) g.ships) l.line
