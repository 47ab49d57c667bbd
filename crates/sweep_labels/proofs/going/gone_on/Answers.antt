use Rattle.sweep_labels.specs.declared.label.Label.{Label}
use Rattle.sweep_labels.proofs.GoingLemmas.{gone_is}
use Rattle.sweep_labels.proofs.going.gone_on.Goals as goal

pub returns : goal.returns
returns c = λ cuts arrive g is.
    let next : Label = record { served = c.joined-served.result; ready = c.in_ok-ready.ready; flow = c.in_ok-flow.flow } in
    gone_is c.args.instance.now cuts c.args.arrivals.now c.requires.level arrive c.args.label.now next c.args.step.now g c.requires.chamber_in is c.joined-served.ensures c.in_ok-flow.ensures c.in_ok-ready.ensures
