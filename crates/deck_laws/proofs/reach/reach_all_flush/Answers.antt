use Rattle.deck_laws.specs.Reach.{IsFlush}
use Rattle.deck_laws.proofs.ReachLemmas.{reaches_more}
use Rattle.deck_laws.proofs.reach.reach_all_flush.Goals as goal

pub loop-i-preserved : goal.loop-i-preserved
loop-i-preserved c = reaches_more _ _ _ c.args.round c.loop-i.i (IsFlush c.args.deck.now c.args.v c.args.j) c.loop-i.invariant c.reach_flush.ensures
