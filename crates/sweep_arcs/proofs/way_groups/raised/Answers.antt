use Rattle.std.proofs.Common.{◌∙◌, ◌<◌, length, length-set, arith}
use Rattle.sweep_arcs.proofs.GroupLemmas.{ceilings_next}
use Rattle.sweep_arcs.proofs.way_groups.raised.Goals as goal

pub loop-ship-preserved : goal.loop-ship-preserved
loop-ship-preserved c =
    let before = c.loop-ship.invariant in
    let here : c.loop-ship.ship < length c.loop-ship.high = omega (arith, before.long, c.loop-ship-test.true) in
    record {
      long = length-set c.loop-ship.high c.loop-ship.ship c.ceiling.result ∙ before.long;
      are = ceilings_next c.args.prices.now c.args.spread c.loop-ship.ship c.at.result c.ceiling.result c.loop-ship.high here c.at.ensures.value c.at.ensures.small c.ceiling.ensures before.are;
    }
