use Rattle.std.proofs.Common.{◌++◌, ap, ◌∙◌, codes, get_or, append_assoc, arith, rules}
use Rattle.std.specs.List.{flat_map, enumerate_from}
use Rattle.std.proofs.lemmas.Result.{IfOk-equal}
use Rattle.lock_rules.specs.Lines.{no_lockage}
use Rattle.lock_rules.proofs.LegalLemmas.{HasArrived, legal-arrived}
use Rattle.plan_print.specs.Order.{in_order}
use Rattle.plan_print.specs.Report.{lockage_text, lockages_text}
use Rattle.plan_print.proofs.OrderLemmas.{lockage-numbered, length-numbered, lockages-all, All-read}
use Rattle.plan_print.proofs.TextLemmas.{flat_map_take_more}
use Rattle.plan_print.proofs.report.put_lockages.Goals as goal

pub put_lockage-requires-clause-arrived : goal.put_lockage-requires-clause-arrived
put_lockage-requires-clause-arrived c =
    let I = c.args.instance.now in
    let P = c.args.plan.now in
    All-read (HasArrived I) P.lockages c.as_slice-lockages.result.now (get_or c.as_slice-place-items.result.now c.loop-k.k 0) c.index-lockages-place.result
    c.as_slice-lockages.ensures.value (search rules) c.index-lockages-place.is (legal-arrived I P c.requires)

pub loop-k-preserved : goal.loop-k-preserved
loop-k-preserved c =
    let I = c.args.instance.now in
    let ls = c.args.plan.now.lockages in
    let seen = c.as_slice-lockages.result.now in
    let order = c.order_of-order.result.items in
    let places = c.as_slice-place-items.result.now in
    let k = c.loop-k.k in
    let same = c.as_slice-lockages.ensures.value in
    let own = c.as_slice-place-items.ensures.value in
    let ordered = c.order_of-order.ensures.ordered in
    let read = lockage-numbered ls seen order places k c.index-lockages-place.result same own ordered c.loop-k-test.true (search rules) c.index-lockages-place.is in
    c.in_ok-put_lockage.ensures
    ∙ ap (λ p. c.loop-k.out.items ++ lockage_text I p) read
    ∙ ap (λ t. t ++ lockage_text I (get_or (enumerate_from 1 (in_order ls)) k (0, no_lockage))) c.loop-k.invariant
    ∙ flat_map_take_more (lockage_text I) c.args.out.now.items (enumerate_from 1 (in_order ls)) k (0, no_lockage)
    (omega (arith, length-numbered ls seen order places same own ordered, c.loop-k-test.true))

pub returns : goal.returns
unfolding lockages_text
returns c =
    let I = c.args.instance.now in
    let ls = c.args.plan.now.lockages in
    IfOk-equal c.put.result _ _ _ c.put.ensures
    (ap (λ t. t ++ codes "end\n")
    (c.loop-k.invariant
    ∙ ap (λ ps. c.args.out.now.items ++ flat_map (lockage_text I) ps)
    (lockages-all ls c.as_slice-lockages.result.now c.order_of-order.result.items c.as_slice-place-items.result.now c.loop-k.k
    c.as_slice-lockages.ensures.value c.as_slice-place-items.ensures.value c.order_of-order.ensures.ordered c.loop-k-test.false))
    ∙ append_assoc c.args.out.now.items (flat_map (lockage_text I) (enumerate_from 1 (in_order ls))) (codes "end\n"))
