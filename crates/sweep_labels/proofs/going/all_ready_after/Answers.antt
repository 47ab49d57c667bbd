use Rattle.std.proofs.Common.{ℕ, ◌<◌, length, ap, ◌∙◌, subst, arith}
use Rattle.std.proofs.lemmas.List.{length-set, get_or_default}
use Rattle.lock_model.specs.declared.way.Way.{Way}
use Rattle.sweep_labels.specs.declared.arrivals.Arrivals.{Arrivals}
use Rattle.sweep_labels.specs.Coming.{AreRaised}
use Rattle.sweep_labels.specs.Steps.{low_by}
use Rattle.sweep_labels.proofs.GoingLemmas.{raised_more}
use Rattle.sweep_labels.proofs.going.all_ready_after.Goals as goal

pub loop-at-preserved : goal.loop-at-preserved
loop-at-preserved c =
    let n = c.loop-at.at in
    let arrivals = c.args.arrivals.now in
    let bits = c.args.served.now.bits in
    let times = c.in_ok-times.field-0 in
    let low : ℕ → Way → ℕ = low_by c.args.instance.now c.args.label.now c.args.step.now in
    let known : n < length c.args.instance.now.chambers = omega (arith, c.loop-at-test.true, c.loop-at.auto.at-end, ap length c.as_slice-at-end.ensures.value) in
    let listed : n < length arrivals = omega (arith, known, c.requires) in
    let within : n < length c.loop-at.times = omega (arith, known, c.loop-at.invariant.room, c.as_slice-at-end.ensures.fits, ap length c.as_slice-at-end.ensures.value) in
    record {
      room = length-set c.loop-at.times n times ∙ c.loop-at.invariant.room;
      all = raised_more low arrivals bits n c.loop-at.times times within
          (λ e. subst (λ (own : Arrivals). AreRaised own bits (low n) times) (c.index-arrivals-at.is ∙ get_or_default arrivals n c.index-arrivals-at.result e listed) c.in_ok-times.ensures)
          c.loop-at.invariant.all;
    }
