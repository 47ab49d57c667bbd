use Rattle.std.proofs.Common.{◌≡◌, ◌≤◌, ◌*◌, take, sum_by, cond}
use Rattle.price_rules.specs.Prices.{has_triple}
use Rattle.price_rules.specs.declared.triple.Triple.{Triple}
use Rattle.sweep_rules.specs.Gain.{ships_missing}
use Rattle.sweep_labels.specs.Ships.{is_in}
use Rattle.sweep.proofs.origin.missing_triples.Given as goal

abbrev pub invariant-loop-triple : goal.invariant-loop-triple
invariant-loop-triple l = record {
  value : l.sum ≡ sum_by (λ (t : Triple). cond (has_triple (ships_missing l.case.instance.now (is_in l.served.bits)) t) t.price 0) (take l.triple-index l.case.prices.now.triples);
  small : l.sum ≤ l.triple-index * 1000000;
}
