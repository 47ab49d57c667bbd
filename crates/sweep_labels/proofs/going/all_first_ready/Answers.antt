use Rattle.std.proofs.Common.{◌≡◌, ℕ, ◌<◌, List, length, ap, ◌∙◌, subst, arith, slice_index_or}
use Rattle.std.proofs.lemmas.List.{length-set, get_or_default}
use Rattle.lock_model.specs.Fleet.{no_chamber, chamber_at}
use Rattle.lock_model.specs.declared.chamber.Chamber.{Chamber}
use Rattle.lock_model.specs.declared.way.Way.{Way}
use Rattle.lock_rules.specs.Timetable.{ready_at}
use Rattle.sweep_labels.specs.declared.arrivals.Arrivals.{Arrivals}
use Rattle.sweep_labels.specs.Coming.{AreRaised}
use Rattle.sweep_labels.specs.Steps.{low_first}
use Rattle.sweep_labels.proofs.GoingLemmas.{raised_more}
use Rattle.sweep_labels.proofs.going.all_first_ready.Goals as goal

pub loop-at-preserved : goal.loop-at-preserved
loop-at-preserved c =
    let n = c.loop-at.at in
    let arrivals = c.args.arrivals.now in
    let bits = c.args.served.now.bits in
    let times = c.in_ok-times.field-0 in
    let low : ℕ → Way → ℕ = low_first c.args.instance.now in
    let known : n < length c.args.instance.now.chambers = omega (arith, c.loop-at-test.true, c.loop-at.auto.at-end, ap length c.as_slice-at-end.ensures.value) in
    let listed : n < length arrivals = omega (arith, known, c.requires) in
    let within : n < length c.loop-at.times = omega (arith, known, c.loop-at.invariant.room, c.as_slice-at-end.ensures.fits, ap length c.as_slice-at-end.ensures.value) in
    let chamber = c.index-as_slice-at.result in
    let same : chamber ≡ chamber_at c.args.instance.now n = c.index-as_slice-at.is ∙ ap (λ (cs : List Chamber). slice_index_or cs n chamber) c.as_slice.ensures.value ∙ get_or_default c.args.instance.now.chambers n chamber no_chamber known in
    let own : AreRaised c.index-arrivals-at.result bits (low n) times = subst (λ (ch : Chamber). AreRaised c.index-arrivals-at.result bits (ready_at ch ch.stands ch.opens) times) same c.in_ok-times.ensures in
    record {
      room = length-set c.loop-at.times n times ∙ c.loop-at.invariant.room;
      all = raised_more low arrivals bits n c.loop-at.times times within
          (λ e. subst (λ (own : Arrivals). AreRaised own bits (low n) times) (c.index-arrivals-at.is ∙ get_or_default arrivals n c.index-arrivals-at.result e listed) own)
          c.loop-at.invariant.all;
    }
