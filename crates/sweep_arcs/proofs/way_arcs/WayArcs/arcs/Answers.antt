use Rattle.std.proofs.Common.{◌≤ℤ◌, arith, sym, subst}
use Rattle.price_groups.specs.Asked.{line_asked}
use Rattle.sweep_arcs.specs.declared.arc_list.ArcList.{ArcList}
use Rattle.sweep_arcs.specs.Ways.{IsArcList}
use Rattle.sweep_arcs.proofs.ListLemmas.{within_done, served_none}
use Rattle.sweep_arcs.proofs.way_arcs.WayArcs.arcs.Goals as goal

pub returns-then-holds-clause-arcs : goal.returns-then-holds-clause-arcs
returns-then-holds-clause-arcs c = record {
  are = served_none (line_asked c.args.case.now) c.args.asked.now c.args.self.now c.new.result.items c.requires.lane.all (c.holds.ensures.0 c.if-holds.true);
}

pub returns-clause-arcs : goal.returns-clause-arcs
returns-clause-arcs c =
    let L = line_asked c.args.case.now in
    let asked = c.args.asked.now in
    let lane = c.in_ok-place.ensures.lane in
    let wide = c.in_ok-place.ensures.place in
    let list : ArcList = c.index.result.now in
    let at = lane.lists.each asked.minute c.in_ok-place.place wide.kept in
    let is : IsArcList L asked.way asked.minute list = subst (IsArcList L asked.way asked.minute) (sym c.index.ensures) (at.is list) in
    let reach : asked.room ≤ℤ list.limit = subst (λ (list : ArcList). asked.room ≤ℤ list.limit) (sym c.index.ensures) (wide.reach list) in
    record { are = within_done L asked list c.in_ok-arcs.arcs.items (omega (arith, L.instance.limits.ship_count.1)) is reach c.in_ok-arcs.ensures }

pub within-requires : goal.within-requires
within-requires c =
    let L = line_asked c.args.case.now in
    let asked = c.args.asked.now in
    let place = c.in_ok-place.ensures.place in
    let list : ArcList = c.index.result.now in
    let at = c.in_ok-place.ensures.lane.lists.each asked.minute c.in_ok-place.place place.kept in
    let is : IsArcList L asked.way asked.minute list = subst (IsArcList L asked.way asked.minute) (sym c.index.ensures) (at.is list) in
    is.rising
