use Rattle.price_groups.specs.Asked.{line_asked}
use Rattle.sweep_arcs.proofs.ArrivalLemmas.{coming-all}
use Rattle.sweep_arcs.proofs.arrivals.coming_ships.Goals as goal

pub returns : goal.returns
returns c =
    let moved = c.in_ok-soonest_first.ensures in
    coming-all (line_asked c.args.case.now) c.args.way c.in_ok-items.items.items c.soonest_first.new.coming.items c.in_ok-items.ensures moved.same moved.rising
