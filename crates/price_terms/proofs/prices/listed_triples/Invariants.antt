use Rattle.std.proofs.Common.{◌≡◌, take}
use Rattle.price_terms.proofs.prices.listed_triples.Given as goal

abbrev pub invariant-loop-triple : goal.invariant-loop-triple
invariant-loop-triple l = l.items.items ≡ take l.triple-index l.triples
