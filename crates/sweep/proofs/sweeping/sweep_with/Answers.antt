use Rattle.std.proofs.Common.{length, refl, sym, subst}
use Rattle.price_terms.specs.Cuts.{plain_cuts}
use Rattle.sweep.specs.Late.{AreLanes}
use Rattle.sweep.specs.Ends.{AreLanesBy, AreLanesAsked}
use Rattle.sweep.proofs.EndLemmas.{lanes_from, all_lanes}
use Rattle.sweep.proofs.JudgeLemmas.{no_value}
use Rattle.sweep.proofs.sweeping.sweep_with.Goals as goal

pub arrivals_of-requires : goal.arrivals_of-requires
arrivals_of-requires c =
    let asked = c.args.asked.now in
    let I = asked.instance.now in
    let cases = c.in_ok-cases.cases.items in
    let lanes = c.in_ok-lanes.lanes.items in
    let by : AreLanesBy cases (length cases) lanes = subst (λ own. AreLanesBy own (length own) lanes) c.deref.ensures.value c.in_ok-lanes.ensures in
    subst (AreLanesAsked asked) (sym c.deref-2.ensures.value) (lanes_from I (plain_cuts I asked.cuts.now) asked.prices.now 0 (length I.chambers) cases lanes by c.in_ok-cases.ensures.own)

pub swept-requires-clause-lanes : goal.swept-requires-clause-lanes
swept-requires-clause-lanes c =
    let late = c.args.late.now in
    let cases = c.in_ok-cases.cases.items in
    let lanes = c.in_ok-lanes.lanes.items in
    let by : AreLanesBy cases (length cases) lanes = subst (λ own. AreLanesBy own (length own) lanes) c.deref.ensures.value c.in_ok-lanes.ensures in
    subst (AreLanes _ late) (sym c.deref_mut.ensures.value) (all_lanes c.args.asked.now _ late cases lanes refl refl refl c.in_ok-cases.ensures by)

pub returns-in_err-cases : goal.returns-in_err-cases
returns-in_err-cases c = no_value _ c.from_residual.result c.from_residual.ensures.0

pub returns-in_err-lanes : goal.returns-in_err-lanes
returns-in_err-lanes c = no_value _ c.from_residual-in_err-lanes.result c.from_residual-in_err-lanes.ensures.0

pub returns-in_err-arrivals : goal.returns-in_err-arrivals
returns-in_err-arrivals c = no_value _ c.from_residual-in_err-arrivals.result c.from_residual-in_err-arrivals.ensures.0
