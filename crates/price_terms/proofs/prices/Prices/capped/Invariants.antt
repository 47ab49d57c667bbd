use Rattle.std.proofs.Common.{◌≡◌, ◌≤◌, take, map, min, All}
use Rattle.price_terms.proofs.prices.Prices.capped.Given as goal

abbrev pub invariant-loop-price : goal.invariant-loop-price
invariant-loop-price l = (l.items.items ≡ map (min 1000000) (take l.price-index l.prices)) × All (λ p. p ≤ 1000000) l.items.items
