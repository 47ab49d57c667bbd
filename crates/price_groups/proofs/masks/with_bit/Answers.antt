use Rattle.std.proofs.Common.{arith}
use Rattle.price_groups.proofs.MaskLemmas.{mask-insert}
use Rattle.price_groups.proofs.masks.with_bit.Goals as goal

pub returns : goal.returns
returns c = λ ships is. mask-insert c.args.mask c.args.ship ships (omega (arith, c.requires)) is
