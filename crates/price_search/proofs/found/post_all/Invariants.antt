use Rattle.std.proofs.Common.{length}
use Rattle.price_search.specs.Holding.{Stays}
use Rattle.price_search.proofs.found.post_all.Given as goal

abbrev pub invariant-loop-cut : goal.invariant-loop-cut
invariant-loop-cut g l =
    g.D.Desk.serves l.desk l.hand × Stays (g.D.Desk.holds l.desk l.held) l.initial.hand l.hand

abbrev pub decreases-loop-cut : goal.decreases-loop-cut
decreases-loop-cut g l = length l.cuts.items
