use Rattle.std.proofs.Common.{◌≡◌, ◌++◌, map, take}
use Rattle.replan.specs.Together.{renumbered}
use Rattle.replan.proofs.together.joined.Given as goal

abbrev pub invariant-loop-lockage : goal.invariant-loop-lockage
invariant-loop-lockage l = l.lockages ≡ l.kept.lockages ++ map (renumbered l.numbers) (take l.lockage-index l.lockage-items)
