use Rattle.std.proofs.Common.{ℕ, ◌<◌}
use Rattle.near_plan.specs.Rows.{IsRow, row_at}
use Rattle.near_plan.proofs.draft.Draft.new.Given as goal

abbrev pub invariant-loop-chamber : goal.invariant-loop-chamber
invariant-loop-chamber l = (c : ℕ) → c < l.chamber → IsRow l.instance c (row_at (record { rows = l.rows }) c)
