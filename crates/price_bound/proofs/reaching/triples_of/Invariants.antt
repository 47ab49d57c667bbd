use Rattle.std.proofs.Common.{◌≡◌, ◌*◌, ◌≤◌, take, sum_by}
use Rattle.price_bound.proofs.reaching.triples_of.Given as goal

abbrev pub invariant-loop-triple : goal.invariant-loop-triple
invariant-loop-triple l = record {
  sum : l.sum ≡ sum_by (λ t. t.price) (take l.triple-index l.prices.triples);
  small : l.sum ≤ l.triple-index * 1000000;
}
