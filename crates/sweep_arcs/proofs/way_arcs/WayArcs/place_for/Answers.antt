use Rattle.price_groups.specs.Asked.{line_asked}
use Rattle.sweep_arcs.proofs.ListLemmas.{lists_kept}
use Rattle.sweep_arcs.proofs.way_arcs.WayArcs.place_for.Goals as goal

pub returns-clause-lane : goal.returns-clause-lane
returns-clause-lane c =
    lists_kept (line_asked c.args.case.now) c.args.asked.now.way c.args.asked.now.minute c.in_ok-place.place c.in_ok-list.list c.args.self.now c.keep.new.self c.in_ok-list.ensures.list.is c.requires.lane c.in_ok-place.ensures
