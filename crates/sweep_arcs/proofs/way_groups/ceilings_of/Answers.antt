use Rattle.std.proofs.Common.{◌≤◌, length, sym, subst}
use Rattle.price_rules.specs.Prices.{PriceList}
use Rattle.lock_model.specs.declared.limits.TheConstants.{SHIPS}
use Rattle.sweep_arcs.specs.Ways.{AreCeilings}
use Rattle.sweep_arcs.proofs.GroupLemmas.{ceilings-capped, below-ceilings}
use Rattle.sweep_arcs.proofs.way_groups.ceilings_of.Goals as goal

pub returns : goal.returns
returns c =
    let prices = c.args.prices.now in
    let own = c.as_slice-own.ensures in
    let are : AreCeilings prices c.args.spread SHIPS c.capped.result.ships =
    subst (λ (high : PriceList). AreCeilings prices c.args.spread SHIPS high.ships) (sym c.capped.ensures) (ceilings-capped prices c.args.spread c.raised.result c.raised.ensures.long c.raised.ensures.are) in
    record { each = are; below = below-ceilings prices c.args.spread c.capped.result (subst (λ ships. length ships ≤ SHIPS) own.value own.fits) are }
