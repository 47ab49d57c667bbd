use Rattle.std.proofs.Common.{below_more, rules, arith}
use Rattle.search_worker.specs.Owning.{IsOwnShip}
use Rattle.search_worker.proofs.OwnLemmas.{all_from}
use Rattle.search_worker.proofs.trusting.are_own_ships.Goals as goal

pub loop-ship-preserved : goal.loop-ship-preserved
loop-ship-preserved c = below_more _ _ c.loop-ship.invariant (search rules)

pub returns : goal.returns
returns c = (λ _. all_from (IsOwnShip c.args.instance.now c.args.first.now c.args.way) c.args.ships.now 0 c.loop-ship.ship-index (omega (arith, c.loop-ship-test.false)) c.loop-ship.invariant, λ _. search rules)
