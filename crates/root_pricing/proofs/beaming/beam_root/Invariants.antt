use Rattle.price_search.specs.Holding.{Stays}
use Rattle.root_pricing.proofs.beaming.beam_root.Given as goal

abbrev pub invariant-loop : goal.invariant-loop
invariant-loop g l =
    g.D.Desk.serves l.desk l.hand × Stays (g.D.Desk.holds l.desk l.held) l.initial.hand l.hand
