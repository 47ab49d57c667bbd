use Rattle.std.proofs.Common.{◌≤◌, arith}
use Rattle.cert_text.specs.Fields.{byte_in}
use Rattle.cert_text.proofs.ListLemmas.{read_more, count_more}
use Rattle.cert_text.proofs.ShipLemmas.{rises_more, below_more}
use Rattle.cert_text.proofs.ships.read_ships.Goals as goal

pub loop-value-preserved : goal.loop-value-preserved
loop-value-preserved c =
    let l = c.loop-value in
    let ship = c.in_ok-ship.ship in
    let new = c.push.new.self in
    let above : l.low ≤ ship = (let same = c.from.ensures in let test = c.if-from-low.false in omega (arith, same, test)) in
    record {
      whole = read_more byte_in c.args.list.now l.ships l.value-index l.invariant.whole c.value-item.result ship new c.loop-value-test.true c.value-item.is c.in_ok-ship.ensures c.push.ensures;
      rises = rises_more l.ships new l.low ship c.from-low.result above c.from-low.ensures c.push.ensures l.invariant.rises;
      below = below_more l.ships new l.low ship c.from-low.result above c.from-low.ensures c.push.ensures l.invariant.below;
      count = count_more l.ships new ship l.value-index l.invariant.count c.push.ensures;
    }
