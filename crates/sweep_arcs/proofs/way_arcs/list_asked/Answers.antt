use Rattle.std.proofs.Common.{sym, subst}
use Rattle.price_groups.specs.Asked.{line_asked}
use Rattle.sweep_arcs.specs.Lanes.{IsGainAt}
use Rattle.sweep_arcs.specs.Ways.{IsWayOf}
use Rattle.sweep_arcs.proofs.ListLemmas.{reached_by}
use Rattle.sweep_arcs.proofs.way_arcs.list_asked.Goals as goal

pub listed-requires-clause-all : goal.listed-requires-clause-all
listed-requires-clause-all c = subst (λ way. IsWayOf (line_asked c.args.case.now) way c.args.all.now) (sym c.in_ok-range.ensures.way) c.requires.all

pub listed-requires-clause-reached : goal.listed-requires-clause-reached
listed-requires-clause-reached c =
    let L = line_asked c.args.case.now in
    let asked = c.args.asked.now in
    let own = c.in_ok-range.ensures in
    let gain : IsGainAt L asked.way asked.minute c.in_ok-gain.gain = subst (λ ask. IsGainAt ask asked.way asked.minute c.in_ok-gain.gain) c.requires.asked c.in_ok-gain.ensures.gain in
    reached_by L asked c.in_ok-range.range c.args.all.now.spread c.in_ok-gain.gain gain.from own.way own.minute own.most
