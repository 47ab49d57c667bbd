use Rattle.std.proofs.Common.{length, All, refl, sym, subst, arith}
use Rattle.price_groups.specs.Asked.{line_asked}
use Rattle.price_successors.specs.Successors.{IsSuccessor}
use Rattle.price_table.specs.Values.{IsFrame}
use Rattle.price_table.specs.declared.frame.Frame.{Frame}
use Rattle.price_successors.proofs.SuccessorListLemmas.{some-successor_list, successor_list-each}
use Rattle.price_table.proofs.FrameLemmas.{frame-less, frame-next, value-far, far-rounded}
use Rattle.price_table.proofs.ThresholdLemmas.{threshold-first}
use Rattle.price_table.proofs.sweeping.sweep.Goals as goal

pub sweep_one-requires-clause-is : goal.sweep_one-requires-clause-is
sweep_one-requires-clause-is c =
    let table = c.args.table.now in
    let case = table.case.now in
    let I = case.instance.now in
    let e = some-successor_list (line_asked case) table.successor_lists.now c.requires.successor_lists in
    let each = successor_list-each (line_asked case) case.chamber_in table.successor_lists.now c.requires.successor_lists c.args.frame.now.ready.state.place c.args.frame.now.ready.state.minute c.requires.frame.place e in
    let own = subst (All (IsSuccessor (line_asked case))) (sym (c.requires.listed e)) each in
    subst (IsSuccessor (line_asked case)) (sym c.index-successors-place.is) (own c.loop-place.place c.index-successors-place.result c.loop-place-test.true)

pub loop-place-preserved : goal.loop-place-preserved
loop-place-preserved c =
    let table = c.args.table.now in
    let case = table.case.now in
    let I = case.instance.now in
    let before = c.loop-place.invariant in
    let was : Frame = record { ready = c.args.frame.now.ready; best = c.loop-place.counted.best; next = c.loop-place.place } in
    record {
      frame = frame-next (line_asked case) case.chamber_in table.horizon table.successor_lists.now was c.sweep_one.new.counted.best c.index-successors-place.result c.loop-place.place c.args.successors.now c.requires.listed c.loop-place-test.true refl c.index-successors-place.is c.sweep_one.ensures.less c.sweep_one.ensures.best (c.if-not-sweep_one.ensures.counted refl) before.frame;
      threshold = c.sweep_one.ensures.threshold;
      more = omega (arith, before.more);
      same = before.same;
    }

pub returns-then-not-sweep_one-clause-frame : goal.returns-then-not-sweep_one-clause-frame
returns-then-not-sweep_one-clause-frame c =
    let table = c.args.table.now in
    let case = table.case.now in
    let I = case.instance.now in
    let was : Frame = record { ready = c.args.frame.now.ready; best = c.loop-place.counted.best; next = c.loop-place.place } in
    let less = frame-less (line_asked case) case.chamber_in table.horizon table.successor_lists.now was c.sweep_one.new.counted.best c.sweep_one.ensures.less c.sweep_one.ensures.best c.loop-place.invariant.frame in
    subst (λ best. IsFrame (line_asked case) table.horizon table.successor_lists.now (record { ready = c.loop-place.frame.ready; best = best; next = c.loop-place.place })) (sym (far-rounded c.sweep_one.new.counted.best (value-far c.sweep_one.new.counted.best table.horizon c.args.frame.now.ready.state.minute table.small c.sweep_one.ensures.best.low c.sweep_one.ensures.best.high)))
    (subst (λ ready. IsFrame (line_asked case) table.horizon table.successor_lists.now (record { ready = ready; best = c.sweep_one.new.counted.best; next = c.loop-place.place })) (sym c.loop-place.invariant.same) less)

pub loop-place-init : goal.loop-place-init
loop-place-init c =
    let table = c.args.table.now in
    let case = table.case.now in
    let I = case.instance.now in
    let was = c.requires.frame in
    let same = sym (far-rounded c.args.frame.now.best (value-far c.args.frame.now.best table.horizon c.args.frame.now.ready.state.minute table.small was.best.low was.best.high)) in
    record {
      frame = subst (λ best. IsFrame (line_asked case) table.horizon table.successor_lists.now (record { ready = c.args.frame.now.ready; best = best; next = c.args.frame.now.next })) same was;
      threshold = threshold-first (line_asked case) case.chamber_in c.args.frame.now.ready c.args.route.now _ c.first_threshold.result c.first_threshold.ensures.low c.first_threshold.ensures.high c.first_threshold.ensures.gainless;
      more = omega arith;
      same = refl;
    }

pub returns-clause-frame : goal.returns-clause-frame
returns-clause-frame c =
    let table = c.args.table.now in
    let case = table.case.now in
    let I = case.instance.now in
    let kept = c.loop-place.invariant.frame in
    let all : IsFrame (line_asked case) table.horizon table.successor_lists.now (record { ready = c.args.frame.now.ready; best = c.loop-place.counted.best; next = length c.args.successors.now }) =
    record { ready = kept.ready; place = kept.place; early = kept.early; best = kept.best; counted = λ j d e before inside. kept.counted j d e (omega (arith, before, c.loop-place-test.false)) inside } in
    subst (λ best. IsFrame (line_asked case) table.horizon table.successor_lists.now (record { ready = c.loop-place.frame.ready; best = best; next = length c.args.successors.now })) (sym (far-rounded c.loop-place.counted.best (value-far c.loop-place.counted.best table.horizon c.args.frame.now.ready.state.minute table.small kept.best.low kept.best.high)))
    (subst (λ ready. IsFrame (line_asked case) table.horizon table.successor_lists.now (record { ready = ready; best = c.loop-place.counted.best; next = length c.args.successors.now })) (sym c.loop-place.invariant.same) all)

pub returns-then-not-sweep_one-clause-same : goal.returns-then-not-sweep_one-clause-same
returns-then-not-sweep_one-clause-same c = c.loop-place.invariant.same

pub returns-clause-same : goal.returns-clause-same
returns-clause-same c = c.loop-place.invariant.same
