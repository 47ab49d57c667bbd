use Rattle.std.proofs.Common.{◌≡◌, ◌≤◌, length}
use Rattle.std.specs.Prelude.{IfSome}
use Rattle.flow_bounds.specs.Least.{passages_from, least_told}
use Rattle.flow_bounds.proofs.passage.least_passage.Given as goal

abbrev pub decreases-loop-chamber : goal.decreases-loop-chamber
decreases-loop-chamber l = l.chamber

abbrev pub invariant-loop-chamber : goal.invariant-loop-chamber
invariant-loop-chamber l = (l.chamber ≤ length l.instance.chambers) × (l.told ≡ least_told (passages_from l.instance l.ship l.chamber)) × IfSome l.told (λ minutes. minutes ≤ 13000000)
