use Rattle.std.proofs.Common.{refl}
use Rattle.sweep_labels.specs.declared.label.Label.{Label}
use Rattle.sweep_labels.proofs.GoingLemmas.{first_is}
use Rattle.sweep_labels.proofs.going.first_label.Goals as goal

pub returns : goal.returns
returns c = λ cuts arrive.
    let label : Label = record { served = c.new-served.result; ready = c.in_ok-ready.ready; flow = 0 } in
    first_is c.args.instance.now cuts c.args.arrivals.now c.requires arrive label c.new-served.ensures refl c.in_ok-ready.ensures
