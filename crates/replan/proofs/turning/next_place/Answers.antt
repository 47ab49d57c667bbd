use Rattle.std.proofs.Common.{◌≡◌, ◌<◌, length, not, get_or, ap, ◌∙◌, arith}
use Rattle.lock_rules.specs.Lines.{lockage_at}
use Rattle.chamber_times.specs.Walk.{line_places}
use Rattle.chamber_times.proofs.WalkLemmas.{line_places-within}
use Rattle.replan.specs.Kept.{starts_before}
use Rattle.replan.proofs.KeptLemmas.{starts_miss}
use Rattle.replan.proofs.TurnLemmas.{found_next}
use Rattle.replan.proofs.turning.next_place.Goals as goal

pub bounds-as_slice-p : goal.bounds-as_slice-p
bounds-as_slice-p c =
    let within = line_places-within c.args.plan.now c.args.chamber c.as_slice-p-items.result.now c.loop-p.p-index (c.as_slice-p-items.ensures.value ∙ c.line_places-places.ensures) c.loop-p-test.true in
    omega (arith, within, ap length c.as_slice.ensures.value)

pub bounds-as_slice-p-in-loop-p : goal.bounds-as_slice-p-in-loop-p
bounds-as_slice-p-in-loop-p c =
    let within = line_places-within c.args.plan.now c.args.chamber c.as_slice-p-items.result.now c.loop-p.p-index (c.as_slice-p-items.ensures.value ∙ c.line_places-places.ensures) c.loop-p-test.true in
    omega (arith, within, ap length c.as_slice.ensures.value)

pub returns-then-as_slice-p-clause-place : goal.returns-then-as_slice-p-clause-place
returns-then-as_slice-p-clause-place c =
    let P = c.args.plan.now in
    let M = c.args.minute in
    let ps = c.as_slice-p-items.result.now in
    let i = c.loop-p.p-index in
    let ls = c.as_slice.result.now in
    let same : ps ≡ line_places P c.args.chamber = c.as_slice-p-items.ensures.value ∙ c.line_places-places.ensures in
    let within : get_or ps i 0 < length P.lockages = line_places-within P c.args.chamber ps i same c.loop-p-test.true in
    let inside : get_or ps i 0 < length ls = omega (arith, within, ap length c.as_slice.ensures.value) in
    let waits = starts_miss P (get_or ps i 0) c.index-as_slice-p.result ls c.as_slice.ensures.value inside c.index-as_slice-p.is M c.if-as_slice-p.true in
    found_next (λ p. not (starts_before M (lockage_at P p))) (line_places P c.args.chamber) ps i same c.loop-p-test.true (ap not waits) c.loop-p.invariant

pub returns-then-as_slice-p-clause-known : goal.returns-then-as_slice-p-clause-known
returns-then-as_slice-p-clause-known c =
    line_places-within c.args.plan.now c.args.chamber c.as_slice-p-items.result.now c.loop-p.p-index (c.as_slice-p-items.ensures.value ∙ c.line_places-places.ensures) c.loop-p-test.true
