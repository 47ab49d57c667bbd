use Rattle.std.proofs.Common.{◌≡◌, length, ap, subst, arith}
use Rattle.price_terms.specs.Cuts.{plain_cuts}
use Rattle.sweep.specs.Ends.{HasCasesMore}
use Rattle.sweep.proofs.EndLemmas.{cases_more}
use Rattle.sweep.proofs.sweeping.append_cases.Goals as goal

pub loop-index-preserved : goal.loop-index-preserved
loop-index-preserved c = cases_more c.args.asked.now c.loop-index.index _ _ _ c.case_of.result c.case_of.ensures c.in_ok-append.ensures c.loop-index.invariant

pub returns : goal.returns
returns c =
    let asked = c.args.asked.now in
    let I = asked.instance.now in
    let all : c.loop-index.index ≡ length I.chambers = omega (arith, c.loop-index-test.false, c.loop-index.auto.index-end, ap length c.as_slice.ensures.value) in
    subst (λ n. HasCasesMore I (plain_cuts I asked.cuts.now) asked.prices.now n c.args.cases.now.items c.loop-index.cases.items) all c.loop-index.invariant
