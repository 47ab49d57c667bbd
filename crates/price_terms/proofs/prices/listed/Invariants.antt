use Rattle.std.proofs.Common.{◌≡◌, take}
use Rattle.price_terms.proofs.prices.listed.Given as goal

abbrev pub invariant-loop-price : goal.invariant-loop-price
invariant-loop-price l = l.items.items ≡ take l.price-index l.prices
