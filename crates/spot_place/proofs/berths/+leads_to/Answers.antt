use Rattle.std.proofs.Common.{rules, refl, sym, arith, ◌≡◌, suc, ◌-◌}
use Rattle.spot_place.specs.OnWay.{lying}
use Rattle.spot_place.proofs.CaseLemmas.{when_false, when_true, leads-nowhere, leads-quay, leads-first, leads-later, leads-only_later}
use Rattle.spot_place.proofs.berths.+leads_to.Goals as goal

pub returns-then-steps-eq0 : goal.returns-then-steps-eq0
returns-then-steps-eq0 t c = when_false _ _ refl (leads-nowhere (lying c.args.berths.now) c.args.from c.args.to c.args.steps c.if-steps-eq0.true)

pub returns-in-None : goal.returns-in-None
returns-in-None t c = when_false _ _ refl (leads-quay (lying c.args.berths.now) c.args.from c.args.to c.args.steps (sym c.in-None.ensures))

pub returns-then-host-to : goal.returns-then-host-to
returns-then-host-to t c =
    let fewer : c.args.steps ≡ suc (c.args.steps - 1) = omega arith in
    when_true _ _ (search rules) (leads-first (lying c.args.berths.now) c.args.from c.args.to c.args.steps c.in-Some.host (c.args.steps - 1) fewer (sym c.in-Some.ensures) c.if-host-to.true)

pub returns-else-host-to : goal.returns-else-host-to
returns-else-host-to t c =
    let fewer : c.args.steps ≡ suc (c.args.steps - 1) = omega arith in (
      (λ h. leads-later (lying c.args.berths.now) c.args.from c.args.to c.args.steps c.in-Some.host (c.args.steps - 1) fewer (sym c.in-Some.ensures) (c.leads_to.ensures.0 h)),
      λ h. c.leads_to.ensures.1 (leads-only_later (lying c.args.berths.now) c.args.from c.args.to c.args.steps c.in-Some.host (c.args.steps - 1) fewer (sym c.in-Some.ensures) c.if-host-to.false h),
    )
