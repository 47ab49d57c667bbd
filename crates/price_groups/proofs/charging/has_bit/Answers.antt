use Rattle.std.proofs.Common.{nat_eq, ap}
use Rattle.std.proofs.lemmas.Nat.Bits.{shr_and_one}
use Rattle.price_groups.proofs.charging.has_bit.Goals as goal

pub returns : goal.returns
returns c = ap (λ b. nat_eq b 1) (shr_and_one c.args.mask c.args.ship)
