use Rattle.std.proofs.Common.{◌≡◌, length, sym, ◌∙◌, subst, arith}
use Rattle.std.proofs.lemmas.List.{get_or_default}
use Rattle.sweep.specs.Ends.{IsRootCase, AreLanesBy}
use Rattle.sweep.proofs.EndLemmas.{lanes_more}
use Rattle.sweep.proofs.sweeping.lanes_of.Goals as goal

pub new-requires : goal.new-requires
new-requires c =
    let case = c.index-cases-place.result in
    let is : IsRootCase case = subst IsRootCase (sym c.index-cases-place.is) (c.requires c.loop-place.place case c.loop-place-test.true) in
    record { root = is.root; empty = is.empty }

pub loop-place-preserved : goal.loop-place-preserved
loop-place-preserved c =
    let cases = c.args.cases.now in
    let n = c.loop-place.place in
    let case = c.index-cases-place.result in
    lanes_more cases n _ _ c.in_ok-lane.lane case (λ e. get_or_default cases n e case c.loop-place-test.true ∙ sym c.index-cases-place.is) c.in_ok-lane.ensures.is c.in_ok-lane.ensures.asked c.in_ok-append.ensures c.loop-place.invariant

pub returns : goal.returns
returns c =
    let cases = c.args.cases.now in
    let all : c.loop-place.place ≡ length cases = omega (arith, c.loop-place-test.false, c.loop-place.auto.place-end) in
    subst (λ n. AreLanesBy cases n c.loop-place.lanes.items) all c.loop-place.invariant
