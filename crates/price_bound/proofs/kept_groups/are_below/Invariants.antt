use Rattle.std.proofs.Common.{ℕ, ◌<◌, ◌≤◌}
use Rattle.price_rules.specs.Prices.{price_at}
use Rattle.price_bound.proofs.kept_groups.are_below.Given as goal

abbrev pub invariant-loop-ship : goal.invariant-loop-ship
invariant-loop-ship l = (s : ℕ) → s < l.ship → price_at l.prices s ≤ price_at l.ceilings s
