use Rattle.std.proofs.Common.{◌≡◌, length, rules, sym, ◌∙◌, subst, arith}
use Rattle.std.proofs.lemmas.List.{get_or_default}
use Rattle.sweep.specs.Ends.{AreAllCases}
use Rattle.sweep.proofs.EndLemmas.{rows_none, rows_more}
use Rattle.sweep.proofs.sweeping.cases_of.Goals as goal

pub loop-place-init : goal.loop-place-init
loop-place-init c = rows_none c.args.asked.now c.args.late.now _ _ (search rules) c.in_ok-append_cases.ensures

pub loop-place-preserved : goal.loop-place-preserved
loop-place-preserved c =
    let late = c.args.late.now in
    let n = c.loop-place.place in
    let ships = c.index-late-place.result in
    rows_more c.args.asked.now late n ships _ _ (λ d. get_or_default late n d ships c.loop-place-test.true ∙ sym c.index-late-place.is) c.in_ok-append_early.ensures.first c.in_ok-append_early.ensures.row c.loop-place.invariant

pub returns : goal.returns
returns c =
    let late = c.args.late.now in
    let all : c.loop-place.place ≡ length late = omega (arith, c.loop-place-test.false, c.loop-place.auto.place-end) in
    subst (λ n. AreAllCases c.args.asked.now late n c.loop-place.cases.items) all c.loop-place.invariant
