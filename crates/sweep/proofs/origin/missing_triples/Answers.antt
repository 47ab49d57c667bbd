use Rattle.std.proofs.Common.{◌≡◌, ◌≤◌, length, sum_by, cond, ap, arith, ◌∙◌}
use Rattle.std.proofs.lemmas.List.{take_all}
use Rattle.price_rules.specs.Prices.{has_triple}
use Rattle.price_rules.specs.declared.triple.Triple.{Triple}
use Rattle.sweep_rules.specs.Gain.{ships_missing}
use Rattle.sweep_labels.specs.Ships.{is_in}
use Rattle.sweep.proofs.origin.missing_triples.Goals as goal

pub returns : goal.returns
returns c =
    let case = c.args.case.now in
    let triples = case.prices.now.triples in
    let missing = ships_missing case.instance.now (is_in c.args.served.now.bits) in
    let same : length c.triples-triple-items.result.now ≡ length triples = ap length c.triples-triple-items.ensures.value in
    let past : length triples ≤ c.loop-triple.triple-index = omega (arith, same, c.loop-triple-test.false) in
    c.loop-triple.invariant.value ∙ ap (sum_by (λ (t : Triple). cond (has_triple missing t) t.price 0)) (take_all c.loop-triple.triple-index triples past)
