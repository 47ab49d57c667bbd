use Rattle.std.proofs.Common.{◌<◌, All, length, sym, subst, arith}
use Rattle.std.proofs.lemmas.List.Elements.{All-weaker}
use Rattle.lock_model.specs.declared.limits.TheConstants.{SHIPS}
use Rattle.price_groups.proofs.weighing.sums_of.Goals as goal

pub mask_of-requires : goal.mask_of-requires
mask_of-requires c =
    let I = c.args.extension.now.case.now.instance.now in
    subst (All (λ s. s < SHIPS)) (sym c.as_slice.ensures.value) (All-weaker (λ s. s < length I.ships) (λ s. s < SHIPS) (λ s h. omega (arith, h, I.limits.ship_count.1)) c.args.ships.now c.requires)
