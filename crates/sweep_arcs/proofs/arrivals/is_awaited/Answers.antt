use Rattle.price_terms.specs.Cuts.{plain_cuts}
use Rattle.sweep_arcs.proofs.ArrivalLemmas.{spared-alone}
use Rattle.sweep_arcs.proofs.arrivals.is_awaited.Goals as goal

pub returns-then-eq : goal.returns-then-eq
returns-then-eq c is =
    let case = c.args.case.now in
    let I = case.instance.now in
    c.are_spared.ensures.1 (spared-alone I case.index (plain_cuts I case.cuts.now) c.args.sets.now c.requires.sets c.args.ship c.requires.known is.1.alone (record { way = c.args.way; ships = c.single-ships.result }) c.single-ships.ensures)
