use Rattle.berth_place.proofs.PairLemmas.{partly_more}
use Rattle.berth_place.proofs.pairs.add_pair.Goals as goal

pub returns-then-do_overlap-clause-partly : goal.returns-then-do_overlap-clause-partly
returns-then-do_overlap-clause-partly c =
    partly_more c.args.deck.now c.args.choices.now c.args.pairs.now.items c.push.new.self.items c.args.upper c.args.lower c.requires.partly c.push.ensures.items
