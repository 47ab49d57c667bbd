use Rattle.std.proofs.Common.{◌≡◌, ◌<◌, length, refl, sym, ap, ◌∙◌, subst, arith, slice_index_or}
use Rattle.lock_model.specs.Fleet.{chamber_at}
use Rattle.lock_model.specs.declared.chamber.Chamber.{Chamber}
use Rattle.sweep.specs.Soonest.{AreSteadyBefore}
use Rattle.sweep.proofs.JudgeLemmas.{same-at}
use Rattle.sweep.proofs.SoonestLemmas.{steady_none, steady_more}
use Rattle.sweep.proofs.soonest.is_steady.Goals as goal

pub loop-chamber-init : goal.loop-chamber-init
loop-chamber-init c = steady_none c.args.case.now c.args.label.now

pub loop-chamber-preserved : goal.loop-chamber-preserved
loop-chamber-preserved c =
    let case = c.args.case.now in
    let n = c.loop-chamber.chamber in
    let read = c.index-case-chamber.result in
    let own = c.index-as_slice-chamber.result in
    let chambers = c.as_slice.result.now in
    let known : n < length case.instance.now.chambers = omega (arith, c.loop-chamber-test.true, ap length c.as_slice-chamber-end.ensures.value) in
    let long : (chamber_at case.instance.now n).pass ≡ (slice_index_or chambers n own).pass =
    ap (λ (chamber : Chamber). chamber.pass) (same-at case.instance.now.chambers n _ own known ∙ ap (λ list. slice_index_or list n own) (sym c.as_slice.ensures.value)) in
    steady_more case c.args.label.now n (slice_index_or case.arrivals.now n read) _ _ c.loop-chamber.invariant (λ d. same-at case.arrivals.now n d read (omega (arith, known, case.level))) refl long
    (c.if-not-is_steady_in.ensures refl)

pub returns : goal.returns
returns c =
    let n = c.loop-chamber.chamber in
    let count = length c.args.case.now.instance.now.chambers in
    let last : n ≡ count = omega (arith, c.loop-chamber-test.false, c.loop-chamber.auto.chamber-end, ap length c.as_slice-chamber-end.ensures.value) in
    λ _. subst (AreSteadyBefore c.args.case.now c.args.label.now) last c.loop-chamber.invariant
