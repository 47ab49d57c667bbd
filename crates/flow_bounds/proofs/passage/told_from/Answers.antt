use Rattle.std.proofs.Common.{◌≡◌, ◌∙◌, ◌∷◌, ◌+◌, ap, sym, true, false}
use Rattle.lock_rules.specs.Bound.{fits_alone}
use Rattle.flow_bounds.specs.Least.{passages_from, least_told}
use Rattle.flow_bounds.proofs.PassageLemmas.{passages_from-fit, passages_from-other}
use Rattle.flow_bounds.proofs.passage.told_from.Goals as goal

pub returns-then-fits-clause-value : goal.returns-then-fits-clause-value
returns-then-fits-clause-value c =
    let I = c.args.instance.now in
    let after = passages_from I c.args.ship (c.args.chamber + 1) in
    let fits : fits_alone I c.args.ship c.args.chamber ≡ true = cc in
    c.less.ensures.value after c.requires.after
    ∙ (λ i. least_told (c.passage.ensures.value i ∷ after))
    ∙ ap least_told (sym (passages_from-fit I c.args.ship c.args.chamber c.requires.chamber_in fits))

pub returns-else-fits-clause-value : goal.returns-else-fits-clause-value
returns-else-fits-clause-value c =
    let I = c.args.instance.now in
    let fits : fits_alone I c.args.ship c.args.chamber ≡ false = cc in
    c.requires.after ∙ ap least_told (sym (passages_from-other I c.args.ship c.args.chamber c.requires.chamber_in fits))
