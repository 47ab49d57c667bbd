use Rattle.node_work.proofs.CutLemmas.{known_among}
use Rattle.node_work.proofs.cutting.cut_of.Goals as goal

pub deck_of-deck-requires-clause-ships_in : goal.deck_of-deck-requires-clause-ships_in
deck_of-deck-requires-clause-ships_in c = known_among c.args.asked.now.instance.now c.args.asked.now.ships.now c.in_ok-begun.begun.ships c.requires.ships_in c.in_ok-begun.ensures.among
