use Rattle.std.proofs.Common.{arith}
use Rattle.sweep.proofs.SoonestLemmas.{steady_in}
use Rattle.sweep.proofs.soonest.is_steady_in.Goals as goal

pub returns : goal.returns
returns c told =
    steady_in c.args.arrivals.now c.args.served.now.bits c.args.pass c.saturating_add.result c.saturating_add-2.result c.args.times.now
    (record { up = c.raised-up.result; down = c.raised-down.result }) (omega (arith, c.saturating_add.ensures)) (omega (arith, c.saturating_add-2.ensures))
    c.raised-up.ensures c.raised-down.ensures (c.is_no_later.ensures.0 told)
