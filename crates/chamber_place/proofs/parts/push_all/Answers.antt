use Rattle.chamber_place.proofs.PartLemmas.{push-below}
use Rattle.chamber_place.proofs.parts.push_all.Goals as goal

pub push-requires-clause-rising : goal.push-requires-clause-rising
push-requires-clause-rising c = push-below c.args.ships.now c.args.more.now c.loop-ship.ships c.loop-ship.ship-index c.loop-ship-test.true c.requires.rising c.loop-ship.invariant
