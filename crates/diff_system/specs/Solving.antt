-- What the solver answers.
use Rattle.std.specs.Prelude.{ℕ, List}
use Rattle.diff_rules.specs.declared.edges.Edge.{Edge}
use Rattle.diff_rules.specs.Differences.{AreLeast, IsSimpleCycle}
use Rattle.diff_system.specs.declared.solve.Solved.{Solved}
use Rattle.diff_system.specs.declared.solve.Solved.TheVariants.{Least, Cycle}

-- the least solution, or the edge numbers of a closed walk of positive total, each once
abbrev pub IsSolved : List Edge → ℕ → Solved → Type 0
IsSolved edges vars (Least values) = AreLeast edges vars values
IsSolved edges vars (Cycle numbers) = IsSimpleCycle edges numbers
