use Rattle.plan_text.proofs.BerthLemmas.{room_for_ship, ships_below, next_ships}
use Rattle.plan_text.proofs.lockages.ships_of.Goals as goal

pub push_berthed-requires-clause-room : goal.push_berthed-requires-clause-room
push_berthed-requires-clause-room c = room_for_ship c.args.berths.now c.loop-ship.ships c.loop-ship.ship c.requires c.loop-ship.invariant

pub push_berthed-requires-clause-rising : goal.push_berthed-requires-clause-rising
push_berthed-requires-clause-rising c = ships_below c.args.berths.now c.loop-ship.ships c.loop-ship.ship c.loop-ship.invariant

pub loop-ship-preserved : goal.loop-ship-preserved
loop-ship-preserved c = next_ships c.args.berths.now c.loop-ship.ships c.push_berthed.new.ships c.loop-ship.ship c.loop-ship.invariant c.push_berthed.ensures
