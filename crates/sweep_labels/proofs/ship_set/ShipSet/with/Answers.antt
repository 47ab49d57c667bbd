use Rattle.sweep_labels.proofs.ShipLemmas.{with-ship}
use Rattle.sweep_labels.proofs.ship_set.ShipSet.with.Goals as goal

pub returns : goal.returns
returns c = with-ship c.args.self.now.bits c.args.ship c.requires
