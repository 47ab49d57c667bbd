use Rattle.deck_laws.specs.Reach.{IsStepBy}
use Rattle.deck_laws.proofs.ReachLemmas.{reaches_more}
use Rattle.deck_laws.proofs.reach.reach_from.Goals as goal

pub loop-j-preserved : goal.loop-j-preserved
loop-j-preserved c = reaches_more _ _ _ c.args.round c.loop-j.j (IsStepBy c.args.deck.now c.args.v) c.loop-j.invariant c.reach_by.ensures
