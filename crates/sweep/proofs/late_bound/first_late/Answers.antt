use Rattle.std.proofs.Common.{◌<◌, length, ap, ◌∙◌, subst, arith}
use Rattle.std.proofs.lemmas.List.{length-set, get_or_default}
use Rattle.sweep_labels.specs.declared.arrivals.Arrivals.{Arrivals}
use Rattle.sweep_labels.specs.Coming.{AreRaised}
use Rattle.sweep_labels.proofs.GoingLemmas.{raised_more}
use Rattle.sweep.specs.Late.{times_from}
use Rattle.sweep.proofs.late_bound.first_late.Goals as goal

pub loop-chamber-preserved : goal.loop-chamber-preserved
loop-chamber-preserved c =
    let n = c.loop-chamber.chamber in
    let first = c.args.first.now in
    let arrivals = c.args.case.now.arrivals.now in
    let bits = c.args.served.bits in
    let own = c.raised_in.result in
    let known : n < length c.args.case.now.instance.now.chambers = omega (arith, c.loop-chamber-test.true, c.loop-chamber.auto.chamber-end, ap length c.as_slice-chamber-end.ensures.value) in
    let listed : n < length arrivals = omega (arith, known, c.args.case.now.level) in
    let within : n < length c.loop-chamber.ready = omega (arith, known, c.loop-chamber.invariant.room, c.as_slice-chamber-end.ensures.fits, ap length c.as_slice-chamber-end.ensures.value) in
    record {
      room = length-set c.loop-chamber.ready n own ∙ c.loop-chamber.invariant.room;
      all = raised_more (times_from first) arrivals bits n c.loop-chamber.ready own within
          (λ e. subst (λ (coming : Arrivals). AreRaised coming bits (times_from first n) own) (get_or_default arrivals n c.index-case-chamber.result e listed) c.raised_in.ensures)
          c.loop-chamber.invariant.all;
    }
