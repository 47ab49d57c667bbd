use Rattle.std.proofs.Common.{◌≡◌, ◌<◌, ℕ, length, get_or}
use Rattle.lock_rules.specs.Lines.{no_lockage}
use Rattle.plan_text.specs.Neat.{IsNearer, IsNeat}
use Rattle.plan_text.proofs.pushing.neat.Given as goal

abbrev pub invariant-loop-lockage : goal.invariant-loop-lockage
invariant-loop-lockage l = record {
  count : length l.lockages ≡ l.lockage-index;
  nearer : (k : ℕ) → k < l.lockage-index → IsNearer (get_or l.plan.lockages k no_lockage) (get_or l.lockages k no_lockage);
  neat : (k : ℕ) → k < l.lockage-index → IsNeat l.instance (get_or l.lockages k no_lockage);
}
