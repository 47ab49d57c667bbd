use Rattle.deck_cases.proofs.DecisionLemmas.{pairs_room}
use Rattle.deck_cases.proofs.decisions.push_ship.Goals as goal

pub push-requires-in-loop-other : goal.push-requires-in-loop-other
push-requires-in-loop-other c = pairs_room c.loop-other.list c.args.ship c.loop-other.other c.loop-other.invariant c.requires.ship c.loop-other-test.true
