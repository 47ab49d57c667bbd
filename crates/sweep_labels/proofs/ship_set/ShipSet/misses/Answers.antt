use Rattle.std.proofs.Common.{bit_and}
use Rattle.std.proofs.lemmas.Bool.Decides.{Decides-eqb}
use Rattle.sweep_labels.proofs.ShipLemmas.{apart, apart-none}
use Rattle.sweep_labels.proofs.ship_set.ShipSet.misses.Goals as goal

pub returns : goal.returns
returns c =
    let a = c.args.self.now.bits in
    let b = c.args.other.now.bits in
    (λ none. apart a b ((Decides-eqb (bit_and a b) 0).0 none), λ are. (Decides-eqb (bit_and a b) 0).1 (apart-none a b are))
