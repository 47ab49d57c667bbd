use Rattle.std.proofs.Common.{All, take}
use Rattle.closing_rules.specs.ListedPrices.{AreShapedPrices}
use Rattle.cert_check.proofs.prices.first_misshaped.Given as goal

abbrev pub invariant-loop-number : goal.invariant-loop-number
invariant-loop-number l = All (AreShapedPrices l.instance) (take l.number l.prices)
