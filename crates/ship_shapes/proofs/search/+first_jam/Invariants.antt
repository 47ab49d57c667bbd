use Rattle.ship_shapes.proofs.search.+first_jam.Given as goal

abbrev pub decreases-first_jam : goal.decreases-first_jam
decreases-first_jam l = l.below
