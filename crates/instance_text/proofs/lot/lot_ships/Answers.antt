use Rattle.std.proofs.Common.{arith}
use Rattle.std.proofs.lemmas.List.{length_push}
use Rattle.instance_text.proofs.LotLemmas.{one_more_ship}
use Rattle.instance_text.proofs.lot.lot_ships.Goals as goal

pub loop-i-preserved : goal.loop-i-preserved
loop-i-preserved c = record {
  few = rw c.push.ensures (omega (arith, length_push c.loop-i.ships c.draw_ship-ship.result));
  early = omega arith;
  same = one_more_ship c.loop-i.ships c.push.new.self _ c.draw_ship-ship.result c.args.count c.loop-i.i c.loop-i.draws.state c.draw_ship-ship.new.draws.state c.loop-i.arrival c.loop-i-test.true c.loop-i.invariant.same c.draw_ship-ship.ensures.ship c.draw_ship-ship.ensures.state c.push.ensures;
}
