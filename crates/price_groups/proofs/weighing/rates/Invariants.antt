use Rattle.price_groups.specs.Sums.{AreRates}
use Rattle.price_groups.proofs.weighing.rates.Given as goal

abbrev pub invariant-loop-ship : goal.invariant-loop-ship
invariant-loop-ship l = AreRates l.case.instance.now l.case.depth l.prices l.ship l.rates.items
