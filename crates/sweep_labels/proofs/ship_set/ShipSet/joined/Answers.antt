use Rattle.sweep_labels.proofs.ShipLemmas.{in-either}
use Rattle.sweep_labels.proofs.ship_set.ShipSet.joined.Goals as goal

pub returns : goal.returns
returns c = in-either c.args.self.now.bits c.args.other.now.bits
