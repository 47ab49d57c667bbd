use Rattle.std.proofs.Common.{◌<◌, IsTrue, length, length-append, refl, sym, ap, subst, arith}
use Rattle.sweep_labels.specs.Labels.{label_of}
use Rattle.sweep.proofs.GoingLemmas.{at_number, at_number_on, bound_treated, late_treated, led_treated}
use Rattle.sweep.proofs.GrownLemmas.{further_more}
use Rattle.sweep.proofs.JudgeLemmas.{no_value}
use Rattle.sweep.proofs.sweeper.Sweeper.treat.Goals as goal

pub close-requires-clause-treated : goal.close-requires-clause-treated
close-requires-clause-treated c =
    let case = c.args.case.now in
    let from = c.args.from.now in
    let made = c.args.self.now.made in
    let over : IsTrue c.in_ok-above.above = subst IsTrue (sym c.if-above.true) refl in
    bound_treated case made from from.number c.requires.origin (at_number case made.labels.items.items from.number from.label c.requires.within c.requires.label) (c.in_ok-above.ensures over)

pub close-requires-2-clause-treated : goal.close-requires-2-clause-treated
close-requires-2-clause-treated c =
    let case = c.args.case.now in
    let from = c.args.from.now in
    let old = c.args.self.now.made in
    let new = c.go_by_all.new.self.made in
    let grown = c.in_ok-go_by_all.ensures.further.grown in
    let within : from.number < length new.labels.items.items = omega (arith, c.requires.within, ap length grown.appended, length-append old.labels.items.items grown.more) in
    led_treated case new (label_of from.label) from.number c.args.missed
    (at_number case new.labels.items.items from.number from.label within (at_number_on case old new from.number from.label grown c.requires.within c.requires.label))
    c.requires.known c.requires.missing c.in_ok-go_by_all.ensures.led

pub returns-in_err-above : goal.returns-in_err-above
returns-in_err-above c = no_value _ c.from_residual.result c.from_residual.ensures.0

pub returns-then-above : goal.returns-then-above
returns-then-above c = c.close.ensures

pub returns-in_err-late : goal.returns-in_err-late
returns-in_err-late c = no_value _ c.from_residual-in_err-late.result c.from_residual-in_err-late.ensures.0

pub returns-in_err-go_by_all : goal.returns-in_err-go_by_all
returns-in_err-go_by_all c = no_value _ c.from_residual-in_err-go_by_all.result c.from_residual-in_err-go_by_all.ensures.0

pub close-requires-then-late-clause-treated : goal.close-requires-then-late-clause-treated
close-requires-then-late-clause-treated c =
    let case = c.args.case.now in
    let from = c.args.from.now in
    let made = c.args.self.now.made in
    let over : IsTrue c.in_ok-late.late = subst IsTrue (sym c.if-late.true) refl in
    late_treated case made from.label from.number (at_number case made.labels.items.items from.number from.label c.requires.within c.requires.label) (c.in_ok-late.ensures over)

pub returns-then-late : goal.returns-then-late
returns-then-late c = c.close-then-late.ensures

pub close-requires-2-clause-sound : goal.close-requires-2-clause-sound
close-requires-2-clause-sound c = c.in_ok-go_by_all.ensures.further.sound

pub returns : goal.returns
returns c = further_more c.args.case.now _ _ _ c.in_ok-go_by_all.ensures.further c.close-2.ensures
