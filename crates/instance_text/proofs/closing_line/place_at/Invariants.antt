use Rattle.std.proofs.Common.{◌≡◌, ℕ, ◌<◌, nat_lt, false, get_or}
use Rattle.lock_model.specs.declared.closure.Closure.{Closure}
use Rattle.instance_text.proofs.closing_line.place_at.Given as goal

abbrev pub invariant-loop-place : goal.invariant-loop-place
invariant-loop-place l = (k : ℕ) (d : Closure) → k < l.place → nat_lt l.from (get_or l.closures k d).from ≡ false
