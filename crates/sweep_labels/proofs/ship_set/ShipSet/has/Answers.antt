use Rattle.std.proofs.Common.{nat_eq, ap}
use Rattle.std.proofs.lemmas.Nat.Bits.{shr_and_one}
use Rattle.sweep_labels.specs.Ships.{is_in}
use Rattle.sweep_labels.proofs.ship_set.ShipSet.has.Goals as goal

pub returns : goal.returns
unfolding is_in
returns c = ap (λ b. nat_eq b 1) (shr_and_one c.args.self.now.bits c.args.ship)
