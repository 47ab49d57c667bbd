use Rattle.std.proofs.Common.{◌≡◌}
use Rattle.price_groups.specs.Asked.{line_asked}
use Rattle.sweep_arcs.specs.Lanes.{gains_ask, AreGainsKept}
use Rattle.sweep_arcs.specs.Ways.{ArePutArcs}
use Rattle.sweep_arcs.proofs.listing.listed.Given as goal

abbrev pub invariant-loop-one : goal.invariant-loop-one
invariant-loop-one l = record {
  kept : AreGainsKept l.gains;
  asked : gains_ask l.gains ≡ line_asked l.case;
  same : gains_ask l.gains ≡ gains_ask l.initial.gains;
  puts : ArePutArcs (line_asked l.case) l.range l.all.groups.items l.one-index l.arcs.items;
}
