use Rattle.node_work.proofs.CutLemmas.{known_among}
use Rattle.node_work.proofs.cutting.berth_part.Goals as goal

pub deck_of-deck-requires-clause-ships_in : goal.deck_of-deck-requires-clause-ships_in
deck_of-deck-requires-clause-ships_in c = known_among c.args.asked.now.instance.now c.args.asked.now.ships.now c.args.ships c.requires.ships_in c.requires.among
