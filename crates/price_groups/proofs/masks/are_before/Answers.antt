use Rattle.std.proofs.Common.{◌≡◌, ◌^◌, ◌/◌, rules}
use Rattle.price_groups.proofs.MaskLemmas.{before-mask}
use Rattle.price_groups.proofs.masks.are_before.Goals as goal

pub returns : goal.returns
returns c = λ ships is before.
    let none : c.args.mask / 2 ^ c.args.ship ≡ 0 = search rules in
    before-mask c.args.mask c.args.ship ships is none
