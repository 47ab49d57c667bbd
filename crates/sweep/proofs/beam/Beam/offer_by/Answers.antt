use Rattle.std.proofs.Common.{length}
use Rattle.sweep.specs.Bounds.{cuts_of}
use Rattle.sweep.proofs.BoundLemmas.{lanes_on}
use Rattle.sweep.proofs.beam.Beam.offer_by.Goals as goal

pub offer_by_arcs-requires-clause-lanes : goal.offer_by_arcs-requires-clause-lanes
offer_by_arcs-requires-clause-lanes c =
    let case = c.args.case.now in
    lanes_on case.instance.now (cuts_of case) case.prices.now 0 (length case.instance.now.chambers) _ _ c.requires.lanes c.in_ok-arcs.ensures.same
