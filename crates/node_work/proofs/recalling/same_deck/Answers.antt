use Rattle.node_work.proofs.DeckLemmas.{deck_eq}
use Rattle.node_work.proofs.recalling.same_deck.Goals as goal

pub returns : goal.returns
returns c = deck_eq c.args.a.now c.args.b.now c.eq.result c.eq.ensures
