use Rattle.sweep_labels.proofs.ShipLemmas.{none-in}
use Rattle.sweep_labels.proofs.ship_set.ShipSet.new.Goals as goal

pub returns : goal.returns
returns c = none-in
