use Rattle.std.proofs.Common.{length, ap, arith}
use Rattle.price_groups.specs.Asked.{line_asked}
use Rattle.sweep_arcs.proofs.ArrivalLemmas.{awaited-none}
use Rattle.sweep_arcs.proofs.arrivals.awaited.Goals as goal

pub loop-ship-init : goal.loop-ship-init
loop-ship-init c = awaited-none (line_asked c.args.case.now) c.args.way c.new-coming.result.items

pub returns : goal.returns
returns c =
    record { each = λ s less is. c.loop-ship.invariant.each s (omega (arith, less, c.loop-ship-test.false, c.loop-ship.auto.ship-end, ap length c.as_slice.ensures.value)) is }
