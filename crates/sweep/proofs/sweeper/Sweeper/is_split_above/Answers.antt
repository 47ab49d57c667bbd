use Rattle.std.proofs.Common.{◌≡◌, ◌<◌, IsTrue, length, slice_index_or, refl, sym, ap, ◌∙◌, subst, arith}
use Rattle.std.proofs.lemmas.Bool.{false≢true}
use Rattle.sweep_rules.specs.Completion.{EndsBelow}
use Rattle.sweep_labels.specs.declared.made.Made.{Made}
use Rattle.sweep_labels.specs.Ships.{is_in}
use Rattle.sweep_labels.specs.Labels.{label_of}
use Rattle.sweep_split.specs.Split.{HasLateCost}
use Rattle.sweep.specs.declared.late.LateShips.{LateShips}
use Rattle.sweep.specs.declared.late_bound.LateCosts.{LateCosts}
use Rattle.sweep.specs.Bounds.{cuts_of, AreLanesFrom}
use Rattle.sweep.specs.Late.{IsGuided}
use Rattle.sweep.proofs.GrownLemmas.{guided_on, further_same, further_more}
use Rattle.sweep.proofs.JudgeLemmas.{no_value, same-at}
use Rattle.sweep.proofs.LateLemmas.{split_none}
use Rattle.sweep.proofs.sweeper.Sweeper.is_split_above.Goals as goal

pub is_early_above-requires-clause-lanes : goal.is_early_above-requires-clause-lanes
is_early_above-requires-clause-lanes c =
    let case = c.args.case.now in
    let known = c.args.self.now.known in
    let lanes = c.loop-place.self.lanes.now in
    let n = c.loop-place.place in
    let own = c.index-late-place.result in
    let guided : IsGuided case lanes known = subst (IsGuided case lanes) c.loop-place.invariant.further.known c.loop-place.invariant.further.sound.guided in
    let within : n < length known.costs.items = omega (arith, c.loop-place-test.true, c.loop-place.auto.place-end, c.len-count.ensures) in
    subst (λ (l : LateShips). AreLanesFrom case.instance.now (cuts_of case) l.prices l.first (length case.instance.now.chambers) lanes) (sym c.index-late-place.is)
    (guided.lanes.rows n own (guided.costs.few n within))

pub returns-in_err-is_early_above-clause-further : goal.returns-in_err-is_early_above-clause-further
returns-in_err-is_early_above-clause-further c = no_value _ c.from_residual.result c.from_residual.ensures.0

pub returns-in_err-is_early_above-clause-none : goal.returns-in_err-is_early_above-clause-none
returns-in_err-is_early_above-clause-none c = no_value _ c.from_residual.result c.from_residual.ensures.0

pub returns-then-count-eq0-clause-further : goal.returns-then-count-eq0-clause-further
returns-then-count-eq0-clause-further c = further_same c.args.case.now c.args.self.now c.args.self.now c.requires c.requires.guided refl refl

pub returns-then-count-eq0-clause-none : goal.returns-then-count-eq0-clause-none
returns-then-count-eq0-clause-none c = λ no. absurd (false≢true no)

pub loop-place-init : goal.loop-place-init
loop-place-init c = record { further = further_same c.args.case.now c.args.self.now c.args.self.now c.requires c.requires.guided refl refl; made = refl }

pub returns-then-branch-clause-further : goal.returns-then-branch-clause-further
returns-then-branch-clause-further c =
    let was = c.loop-place.invariant.further in
    let now = c.loop-place.self in
    let own = further_same c.args.case.now now _ was.sound (guided_on c.args.case.now now.lanes.now _ now.known was.sound.guided c.in_ok-is_early_above.ensures.same) refl refl in
    further_more c.args.case.now c.args.self.now now _ was own

pub returns-then-branch-clause-none : goal.returns-then-branch-clause-none
returns-then-branch-clause-none c =
    let case = c.args.case.now in
    let label = c.args.label.now in
    let known = c.args.self.now.known in
    let n = c.loop-place.place in
    let own = c.index-late-place.result in
    let cost = c.index.result.now in
    let within : n < length known.costs.items = omega (arith, c.loop-place-test.true, c.loop-place.auto.place-end, c.len-count.ensures) in
    let cost-is : cost ≡ slice_index_or known.costs.items n 0 =
    c.index.ensures ∙ ap (λ (k : LateCosts). slice_index_or k.costs.items n cost) c.loop-place.invariant.further.known ∙ same-at known.costs.items n cost 0 within in
    let low : HasLateCost case.instance.now (cuts_of case) (is_in own.ships.bits) (label_of known.first).ready cost =
    subst (HasLateCost case.instance.now (cuts_of case) (is_in own.ships.bits) (label_of known.first).ready) (sym cost-is)
    (subst (λ (l : LateShips). HasLateCost case.instance.now (cuts_of case) (is_in l.ships.bits) (label_of known.first).ready (slice_index_or known.costs.items n 0)) (sym c.index-late-place.is)
    (c.requires.guided.costs.each n own within)) in
    let over : IsTrue c.in_ok-is_early_above.field-0 = subst IsTrue (sym c.if-branch.true) refl in
    let early = c.in_ok-is_early_above.ensures in
    λ _ ends.
    split_none case known.first label own.ships.bits c.args.self.now.made.goal cost c.saturating_sub-left.result c.requires.arrive (c.if-not-is_steady.ensures refl) (c.if-not-is_no_worse.ensures refl)
    (early.apart over) low c.saturating_sub-left.ensures (early.none over)
    (subst (λ (made : Made). EndsBelow case.instance.now (cuts_of case) made.goal (label_of label)) c.loop-place.invariant.made ends)

pub loop-place-preserved : goal.loop-place-preserved
loop-place-preserved c =
    let was = c.loop-place.invariant.further in
    let now = c.loop-place.self in
    let own = further_same c.args.case.now now _ was.sound (guided_on c.args.case.now now.lanes.now _ now.known was.sound.guided c.in_ok-is_early_above.ensures.same) refl refl in
    record { further = further_more c.args.case.now c.args.self.now now _ was own; made = c.loop-place.invariant.made }

pub returns-clause-further : goal.returns-clause-further
returns-clause-further c = c.loop-place.invariant.further

pub returns-clause-none : goal.returns-clause-none
returns-clause-none c = λ no. absurd (false≢true no)
