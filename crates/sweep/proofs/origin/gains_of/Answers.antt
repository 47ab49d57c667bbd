use Rattle.std.proofs.Common.{◌<◌, length, ap, ◌∙◌, arith}
use Rattle.std.proofs.lemmas.List.{length-set}
use Rattle.sweep.proofs.BoundLemmas.{gains_more, lanes_on, same_more}
use Rattle.sweep.specs.Bounds.{cuts_of}
use Rattle.sweep.proofs.origin.gains_of.Goals as goal

pub loop-chamber-preserved : goal.loop-chamber-preserved
loop-chamber-preserved c =
    let n = c.loop-chamber.chamber in
    let gains = c.loop-chamber.gains in
    let gain = c.in_ok-gains.field-0 in
    let known : n < length c.args.case.now.instance.now.chambers = omega (arith, c.loop-chamber-test.true, c.loop-chamber.auto.chamber-end, ap length c.as_slice-chamber-end.ensures.value) in
    let within : n < length gains = omega (arith, known, c.loop-chamber.invariant.room, c.as_slice-chamber-end.ensures.fits, ap length c.as_slice-chamber-end.ensures.value) in
    record {
      lanes = lanes_on c.args.case.now.instance.now (cuts_of c.args.case.now) c.args.case.now.prices.now c.args.first (length c.args.case.now.instance.now.chambers) _ _ c.loop-chamber.invariant.lanes c.in_ok-gains.ensures.same;
      same = same_more _ _ _ c.loop-chamber.invariant.same c.in_ok-gains.ensures.same;
      room = length-set gains n gain ∙ c.loop-chamber.invariant.room;
      all = gains_more c.args.case.now c.args.label.now n gains gain within c.in_ok-gains.ensures.gain c.loop-chamber.invariant.all;
    }
