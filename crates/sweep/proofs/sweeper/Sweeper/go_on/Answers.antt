use Rattle.std.proofs.Common.{IsTrue, refl, sym, subst}
use Rattle.sweep.specs.Bounds.{cuts_of}
use Rattle.sweep.proofs.GrownLemmas.{guided_on, sound_same, further_same, further_more}
use Rattle.sweep.proofs.GoingLemmas.{arc_dropped, arc_late, arc_kept}
use Rattle.sweep.proofs.JudgeLemmas.{no_value}
use Rattle.sweep.proofs.sweeper.Sweeper.go_on.Goals as goal

pub returns-then-above-clause-further : goal.returns-then-above-clause-further
returns-then-above-clause-further c =
    further_same c.args.case.now _ _ c.requires.sound (guided_on c.args.case.now _ _ _ c.requires.sound.guided c.in_ok-gains.ensures.same) refl refl

pub returns-then-above-clause-led : goal.returns-then-above-clause-led
returns-then-above-clause-led c =
    let case = c.args.case.now in
    let over : IsTrue c.in_ok-above.above = subst IsTrue (sym c.if-above.true) refl in
    arc_dropped case c.args.self.now.made c.args.from.now c.args.step.now c.in_ok-label.label (record { ships = c.in_ok-less.field-0; triples = c.missing_triples.result }) c.in_ok-gains.gains c.requires.origin
    (λ g is. c.in_ok-label.ensures (cuts_of case) c.requires.sound.arrive g is) c.in_ok-less.ensures c.missing_triples.ensures c.in_ok-gains.ensures.gains (c.in_ok-above.ensures over)

pub returns-then-late-clause-further : goal.returns-then-late-clause-further
returns-then-late-clause-further c =
    further_same c.args.case.now _ _ c.requires.sound (guided_on c.args.case.now _ _ _ c.requires.sound.guided c.in_ok-gains.ensures.same) refl refl

pub returns-then-late-clause-led : goal.returns-then-late-clause-led
returns-then-late-clause-led c =
    let case = c.args.case.now in
    let over : IsTrue c.in_ok-late.late = subst IsTrue (sym c.if-late.true) refl in
    arc_late case c.args.self.now.made c.args.from.now.label c.args.step.now c.in_ok-label.label (λ g is. c.in_ok-label.ensures (cuts_of case) c.requires.sound.arrive g is) (c.in_ok-late.ensures over)

pub is_split_above-requires : goal.is_split_above-requires
is_split_above-requires c = sound_same c.args.case.now _ _ c.requires.sound (guided_on c.args.case.now _ _ _ c.requires.sound.guided c.in_ok-gains.ensures.same) refl

pub returns-then-split-clause-further : goal.returns-then-split-clause-further
returns-then-split-clause-further c =
    let case = c.args.case.now in
    further_more case _ _ _ (further_same case _ _ c.requires.sound (guided_on case _ _ _ c.requires.sound.guided c.in_ok-gains.ensures.same) refl refl) c.in_ok-split.ensures.further

pub returns-then-split-clause-led : goal.returns-then-split-clause-led
returns-then-split-clause-led c =
    let case = c.args.case.now in
    let over : IsTrue c.in_ok-split.split = subst IsTrue (sym c.if-split.true) refl in
    arc_late case c.is_split_above.new.self.made c.args.from.now.label c.args.step.now c.in_ok-label.label (λ g is. c.in_ok-label.ensures (cuts_of case) c.requires.sound.arrive g is) (c.in_ok-split.ensures.none over)

pub returns-clause-further : goal.returns-clause-further
returns-clause-further c =
    let case = c.args.case.now in
    further_more case _ _ _ (further_same case _ _ c.requires.sound (guided_on case _ _ _ c.requires.sound.guided c.in_ok-gains.ensures.same) refl refl)
    (further_more case _ _ _ c.in_ok-split.ensures.further c.in_ok-keep.ensures.further)

pub returns-clause-led : goal.returns-clause-led
returns-clause-led c =
    let case = c.args.case.now in
    arc_kept case _ c.args.from.now.label c.args.step.now c.in_ok-label.label (λ g is. c.in_ok-label.ensures (cuts_of case) c.requires.sound.arrive g is) c.in_ok-keep.ensures.met

pub returns-in_err-label-clause-further : goal.returns-in_err-label-clause-further
returns-in_err-label-clause-further c = no_value _ c.from_residual.result c.from_residual.ensures.0

pub returns-in_err-label-clause-led : goal.returns-in_err-label-clause-led
returns-in_err-label-clause-led c = no_value _ c.from_residual.result c.from_residual.ensures.0

pub returns-in_err-gains-clause-further : goal.returns-in_err-gains-clause-further
returns-in_err-gains-clause-further c = no_value _ c.from_residual-in_err-gains.result c.from_residual-in_err-gains.ensures.0

pub returns-in_err-gains-clause-led : goal.returns-in_err-gains-clause-led
returns-in_err-gains-clause-led c = no_value _ c.from_residual-in_err-gains.result c.from_residual-in_err-gains.ensures.0

pub returns-in_err-less-clause-further : goal.returns-in_err-less-clause-further
returns-in_err-less-clause-further c = no_value _ c.from_residual-in_err-less.result c.from_residual-in_err-less.ensures.0

pub returns-in_err-less-clause-led : goal.returns-in_err-less-clause-led
returns-in_err-less-clause-led c = no_value _ c.from_residual-in_err-less.result c.from_residual-in_err-less.ensures.0

pub returns-in_err-above-clause-further : goal.returns-in_err-above-clause-further
returns-in_err-above-clause-further c = no_value _ c.from_residual-in_err-above.result c.from_residual-in_err-above.ensures.0

pub returns-in_err-above-clause-led : goal.returns-in_err-above-clause-led
returns-in_err-above-clause-led c = no_value _ c.from_residual-in_err-above.result c.from_residual-in_err-above.ensures.0

pub returns-in_err-late-clause-further : goal.returns-in_err-late-clause-further
returns-in_err-late-clause-further c = no_value _ c.from_residual-in_err-late.result c.from_residual-in_err-late.ensures.0

pub returns-in_err-late-clause-led : goal.returns-in_err-late-clause-led
returns-in_err-late-clause-led c = no_value _ c.from_residual-in_err-late.result c.from_residual-in_err-late.ensures.0

pub returns-in_err-split-clause-further : goal.returns-in_err-split-clause-further
returns-in_err-split-clause-further c = no_value _ c.from_residual-in_err-split.result c.from_residual-in_err-split.ensures.0

pub returns-in_err-split-clause-led : goal.returns-in_err-split-clause-led
returns-in_err-split-clause-led c = no_value _ c.from_residual-in_err-split.result c.from_residual-in_err-split.ensures.0

pub returns-in_err-keep-clause-further : goal.returns-in_err-keep-clause-further
returns-in_err-keep-clause-further c = no_value _ c.from_residual-in_err-keep.result c.from_residual-in_err-keep.ensures.0

pub returns-in_err-keep-clause-led : goal.returns-in_err-keep-clause-led
returns-in_err-keep-clause-led c = no_value _ c.from_residual-in_err-keep.result c.from_residual-in_err-keep.ensures.0

pub gains_of-requires : goal.gains_of-requires
gains_of-requires c = c.requires.sound.guided.lanes.own

pub is_late_above-requires-clause-arrive : goal.is_late_above-requires-clause-arrive
is_late_above-requires-clause-arrive c = c.requires.sound.arrive

pub is_late_above-requires-clause-triples : goal.is_late_above-requires-clause-triples
is_late_above-requires-clause-triples c = c.missing_triples.ensures

pub is_late_above-requires-clause-gains : goal.is_late_above-requires-clause-gains
is_late_above-requires-clause-gains c = c.in_ok-gains.ensures.gains

pub keep-requires : goal.keep-requires
keep-requires c = c.in_ok-split.ensures.further.sound
