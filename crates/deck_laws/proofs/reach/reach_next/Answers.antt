use Rattle.deck_laws.proofs.ReachLemmas.{reach_next_more}
use Rattle.deck_laws.proofs.reach.reach_next.Goals as goal

pub loop-v-preserved : goal.loop-v-preserved
loop-v-preserved c = reach_next_more c.args.deck.now _ _ _ c.args.before c.loop-v.v c.loop-v.invariant c.reach_after.ensures
