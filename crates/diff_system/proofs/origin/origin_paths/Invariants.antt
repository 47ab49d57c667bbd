use Rattle.diff_system.specs.PathTree.{AreBegun}
use Rattle.diff_system.proofs.origin.origin_paths.Given as goal

abbrev pub invariant-loop-variable : goal.invariant-loop-variable
invariant-loop-variable l = AreBegun l.edges l.paths l.variable
