use Rattle.std.proofs.Common.{length, sym, subst}
use Rattle.price_terms.specs.Cuts.{plain_cuts}
use Rattle.sweep.specs.Bounds.{AreLanesFrom}
use Rattle.sweep.specs.Ends.{AreLanesBy, AreLanesAsked}
use Rattle.sweep.proofs.EndLemmas.{lanes_from}
use Rattle.sweep.proofs.beam.plan_below.Goals as goal

pub arrivals_of-requires : goal.arrivals_of-requires
arrivals_of-requires c =
    let asked = c.args.asked.now in
    let I = asked.instance.now in
    let cases = c.in_ok-cases.cases.items in
    let lanes = c.in_ok-lanes.lanes.items in
    let by : AreLanesBy cases (length cases) lanes = subst (λ own. AreLanesBy own (length own) lanes) c.deref.ensures.value c.in_ok-lanes.ensures in
    subst (AreLanesAsked asked) (sym c.deref-2.ensures.value) (lanes_from I (plain_cuts I asked.cuts.now) asked.prices.now 0 (length I.chambers) cases lanes by c.in_ok-cases.ensures.own)

pub lines_below-requires : goal.lines_below-requires
lines_below-requires c =
    let asked = c.args.asked.now in
    let I = asked.instance.now in
    let cases = c.in_ok-cases.cases.items in
    let lanes = c.in_ok-lanes.lanes.items in
    let by : AreLanesBy cases (length cases) lanes = subst (λ own. AreLanesBy own (length own) lanes) c.deref.ensures.value c.in_ok-lanes.ensures in
    subst (AreLanesFrom I (plain_cuts I asked.cuts.now) asked.prices.now 0 (length I.chambers)) (sym c.deref_mut.ensures.value)
    (lanes_from I (plain_cuts I asked.cuts.now) asked.prices.now 0 (length I.chambers) cases lanes by c.in_ok-cases.ensures.own)
