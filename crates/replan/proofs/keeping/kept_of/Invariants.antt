use Rattle.std.proofs.Common.{◌≡◌, take, filter}
use Rattle.replan.specs.Kept.{starts_before}
use Rattle.replan.proofs.keeping.kept_of.Given as goal

abbrev pub invariant-loop-lockage : goal.invariant-loop-lockage
invariant-loop-lockage l = l.lockages ≡ filter (starts_before l.from) (take l.lockage-index l.lockage-items)
