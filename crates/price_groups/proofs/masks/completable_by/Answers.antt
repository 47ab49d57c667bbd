use Rattle.std.proofs.Common.{◌≡◌, subst, rules}
use Rattle.price_groups.specs.Masks.{IsMask}
use Rattle.price_groups.proofs.MaskLemmas.{having-done}
use Rattle.price_groups.proofs.masks.completable_by.Goals as goal

pub returns : goal.returns
returns c = λ sets are.
    let case = c.args.case.now in
    let ships = c.in_ok-allowed.field-0.items in
    let same : c.deref.result.now ≡ ships = search rules in
    having-done c.mask_of-own.result c.mask_of-early.result c.args.marks.now case.instance.now case.depth sets c.args.ship ships c.in_ok-having.field-0.items c.mask_of-own.ensures (subst (IsMask c.mask_of-early.result) same c.mask_of-early.ensures) c.in_ok-allowed.ensures are c.in_ok-having.ensures
