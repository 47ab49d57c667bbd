use Rattle.std.proofs.Common.{rules, arith, below_more}
use Rattle.spot_place.specs.OnWay.{lying, IsBack}
use Rattle.spot_place.proofs.berths.first_leading_back.Goals as goal

pub loop-ship-preserved : goal.loop-ship-preserved
loop-ship-preserved c =
    let none : IsBack (lying c.args.berths.now) c.args.ships c.loop-ship.ship → ⊥ = search rules in
    below_more _ _ c.loop-ship.invariant none

pub returns-clause-none : goal.returns-clause-none
returns-clause-none c = record { each = λ i h. c.loop-ship.invariant i (omega arith) }
