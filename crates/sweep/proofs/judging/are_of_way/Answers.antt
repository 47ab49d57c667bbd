use Rattle.sweep.specs.Judging.{IsOfWay}
use Rattle.sweep.proofs.JudgeLemmas.{each_more, each_all}
use Rattle.sweep.proofs.judging.are_of_way.Goals as goal

pub loop-ship-preserved : goal.loop-ship-preserved
loop-ship-preserved c =
    each_more (IsOfWay c.args.instance.now c.args.way) c.args.ships.now 0 c.loop-ship.ship-index c.loop-ship.invariant (c.is_of_way.ensures c.if-not-is_of_way.false)

pub returns : goal.returns
returns c = λ _. each_all (IsOfWay c.args.instance.now c.args.way) c.args.ships.now 0 c.loop-ship.ship-index c.loop-ship.invariant c.loop-ship-test.false
