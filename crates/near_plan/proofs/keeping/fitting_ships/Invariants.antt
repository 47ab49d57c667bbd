use Rattle.std.proofs.Common.{◌≡◌}
use Rattle.near_plan.proofs.keeping.fitting_ships.Given as goal

abbrev pub invariant-loop : goal.invariant-loop
invariant-loop g l = g.F.Fitting.instance l.fitting ≡ l.instance
