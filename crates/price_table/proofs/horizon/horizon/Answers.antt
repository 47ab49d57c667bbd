use Rattle.std.proofs.Common.{length, ap, arith}
use Rattle.price_table.proofs.FrameLemmas.{late-next}
use Rattle.price_table.proofs.horizon.horizon.Goals as goal

pub loop-ship-init : goal.loop-ship-init
loop-ship-init c = record { late = λ s none missing. absurd (omega (arith, none)); small = omega arith }

pub loop-ship-preserved : goal.loop-ship-preserved
loop-ship-preserved c =
    let case = c.args.case.now in
    let later = c.later-latest.ensures in
    record {
      late = late-next case.instance.now case.depth case.prices.now c.loop-ship.ship c.loop-ship.latest c.later-latest.result later.later later.served c.loop-ship.invariant.late;
      small = later.small;
    }

pub returns-clause-late : goal.returns-clause-late
returns-clause-late c =
    record { late = λ s known missing. c.loop-ship.invariant.late s (omega (arith, known, c.loop-ship-test.false, c.loop-ship.auto.ship-end, ap length c.as_slice.ensures.value)) missing }

pub returns-clause-small : goal.returns-clause-small
returns-clause-small c = c.loop-ship.invariant.small
