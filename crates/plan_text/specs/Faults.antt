-- What is wrong with a plan text, and the line at which it is.
use Rattle.std.specs.Prelude.{ℕ, Result, Ok, Err}
use Rattle.plan_text.specs.declared.kinds.BadPlan.{BadPlan}
use Rattle.plan_text.specs.declared.kinds.PlanKind.{PlanKind}

abbrev pub bad : ℕ → PlanKind → BadPlan
bad line kind = record { line = line; kind = kind }

-- the result of the line of this number
abbrev pub at_line : {A : Type 0} → ℕ → Result A PlanKind → Result A BadPlan
at_line n (Ok x) = Ok x
at_line n (Err kind) = Err (bad n kind)
