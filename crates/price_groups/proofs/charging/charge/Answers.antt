use Rattle.std.proofs.Common.{◌≡◌, ◌≤◌, length, sum_by, cond, ap, arith, ◌∙◌}
use Rattle.std.proofs.lemmas.List.{take_all}
use Rattle.price_rules.specs.Prices.{has_triple}
use Rattle.price_rules.specs.declared.triple.Triple.{Triple}
use Rattle.price_groups.proofs.charging.charge.Goals as goal

pub returns-clause-value : goal.returns-clause-value
returns-clause-value c = λ ships is all.
    let triples = c.args.prices.now.triples in
    let same : length c.triples-triple-items.result.now ≡ length triples = ap length c.triples-triple-items.ensures.value in
    let past : length triples ≤ c.loop-triple.triple-index = omega (arith, same, c.loop-triple-test.false) in
    c.loop-triple.invariant.value ships is all ∙ ap (sum_by (λ (t : Triple). cond (has_triple ships t) t.price 0)) (take_all c.loop-triple.triple-index triples past)
