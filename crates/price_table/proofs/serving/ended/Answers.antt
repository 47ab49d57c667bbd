use Rattle.std.proofs.Common.{◌*◌, length, ap, ◌∙◌}
use Rattle.price_table.proofs.ServingLemmas.{sums-plain, sums-low, sums-high}
use Rattle.price_table.proofs.serving.ended.Goals as goal

pub returns-clause-worth : goal.returns-clause-worth
returns-clause-worth c =
    let successor = c.args.successor.now in
    sums-plain c.product-sum.result successor.charged successor.pays (length successor.group.ships * c.args.end) (c.product-sum.ensures.value ∙ ap (λ n. n * c.args.end) c.len.ensures.value) c.product-sum.ensures.small c.requires.light c.requires.fair

pub returns-clause-low : goal.returns-clause-low
returns-clause-low c = sums-low c.product-sum.result c.args.successor.now.charged c.args.successor.now.pays c.product-sum.ensures.small c.requires.light c.requires.fair

pub returns-clause-high : goal.returns-clause-high
returns-clause-high c = sums-high c.product-sum.result c.args.successor.now.charged c.args.successor.now.pays c.product-sum.ensures.small c.requires.light c.requires.fair
