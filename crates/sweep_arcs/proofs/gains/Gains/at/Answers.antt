use Rattle.std.proofs.Common.{arith}
use Rattle.std.proofs.lemmas.Result.{IfOk-weaker}
use Rattle.sweep_arcs.specs.Lanes.{gains_ask}
use Rattle.sweep_arcs.proofs.GainLemmas.{gain-later}
use Rattle.sweep_arcs.proofs.gains.Gains.at.Goals as goal

pub returns-clause-gain : goal.returns-clause-gain
returns-clause-gain c =
    let ask = gains_ask c.args.self.now in
    let early = c.min-early.result in
    IfOk-weaker c.early.result _ _ (λ gain is. gain-later ask c.args.self.now.values.case.now.chamber_in c.args.way early c.args.minute gain (omega (arith, c.min-early.ensures)) is) c.early.ensures.gain
