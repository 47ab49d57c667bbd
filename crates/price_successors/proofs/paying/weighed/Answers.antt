use Rattle.std.proofs.Common.{◌<◌, length, ap, ◌∙◌, sum_by, sym, subst, arith}
use Rattle.std.proofs.lemmas.List.Elements.{All-weaker}
use Rattle.lock_model.specs.declared.limits.TheConstants.{SHIPS}
use Rattle.lock_model.specs.declared.group.Group.{Group}
use Rattle.price_groups.specs.Asked.{line_asked}
use Rattle.price_groups.specs.Sums.{rate_of}
use Rattle.price_successors.specs.Successors.{AreSums}
use Rattle.price_groups.proofs.WeighLemmas.{sums-short, sums-soon}
use Rattle.price_successors.proofs.paying.weighed.Goals as goal

pub returns-clause-sums : goal.returns-clause-sums
returns-clause-sums c =
    let case = c.args.extension.now.case.now in
    let I = case.instance.now in
    let own = c.args.grown.now.sums in
    let ships = c.args.grown.now.group.ships in
    subst (λ (g : Group). AreSums (line_asked case) (record { group = g; joins = c.args.joins; duration = own.duration; last = own.last; pays = c.paid.result; charged = c.charge.result })) (sym c.copy.ensures)
    (record {
      duration = c.requires.sums.duration;
      last = c.requires.sums.last;
      pays = c.paid.ensures.value ∙ ap (sum_by (rate_of I case.depth case.prices.now)) c.as_slice.ensures.value;
      short = sums-short I case.index case.chamber_in own ships c.requires.known c.requires.few c.requires.sums;
      soon = sums-soon I case.index own ships c.requires.known c.requires.sums;
      fair = c.paid.ensures.small;
      charged = c.charge.ensures.value ships c.requires.sums.mask (All-weaker (λ s. s < length I.ships) (λ s. s < SHIPS) (λ s h. omega (arith, h, I.limits.ship_count.1)) ships c.requires.known);
      light = c.charge.ensures.small;
    })
