use Rattle.ship_shapes.proofs.JamLemmas.{chosen_short}
use Rattle.ship_shapes.proofs.search.chosen_jam.Goals as goal

pub returns-else-is_long-clause-none : goal.returns-else-is_long-clause-none
returns-else-is_long-clause-none c = chosen_short c.args.lane.now c.args.chosen.now c.args.along c.requires.along (c.is_long.ensures.no.0 c.if-is_long.false)
