use Rattle.std.proofs.Common.{bit_and}
use Rattle.std.proofs.lemmas.Bool.Decides.{Decides-eqb}
use Rattle.sweep_labels.proofs.ShipLemmas.{holds, holds-same}
use Rattle.sweep_labels.proofs.ship_set.ShipSet.holds.Goals as goal

pub returns : goal.returns
returns c =
    let a = c.args.self.now.bits in
    let b = c.args.other.now.bits in
    (λ same. holds a b ((Decides-eqb (bit_and a b) b).0 same), λ are. (Decides-eqb (bit_and a b) b).1 (holds-same a b are))
