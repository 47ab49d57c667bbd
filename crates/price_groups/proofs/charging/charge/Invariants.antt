use Rattle.std.proofs.Common.{ℕ, ◌≡◌, ◌<◌, ◌≤◌, ◌*◌, List, All, take, sum_by, cond}
use Rattle.lock_model.specs.declared.limits.TheConstants.{SHIPS}
use Rattle.price_rules.specs.Prices.{has_triple}
use Rattle.price_rules.specs.declared.triple.Triple.{Triple}
use Rattle.price_groups.specs.Masks.{IsMask}
use Rattle.price_groups.proofs.charging.charge.Given as goal

abbrev pub invariant-loop-triple : goal.invariant-loop-triple
invariant-loop-triple l = record {
  value : (ships : List ℕ) → IsMask l.mask ships → All (λ s. s < SHIPS) ships → l.sum ≡ sum_by (λ (t : Triple). cond (has_triple ships t) t.price 0) (take l.triple-index l.prices.triples);
  small : l.sum ≤ l.triple-index * 1000000;
}
