use Rattle.std.proofs.Common.{◌++◌, get_or, ap, ◌∙◌, codes, append_assoc}
use Rattle.plan_print.proofs.TextLemmas.{flat_map_take_more}
use Rattle.lock_model.specs.declared.closure.Closure.{Closure}
use Rattle.picture_page.specs.Ground.{span_text}
use Rattle.picture_page.specs.Lanes.{closed_text}
use Rattle.picture_page.proofs.lanes.put_closed.Goals as goal

pub loop-closure-preserved : goal.loop-closure-preserved
unfolding closed_text
loop-closure-preserved c =
    let shown = closed_text c.args.clock in
    let xs = c.as_slice-closure-items.result.now in
    let i = c.loop-closure.closure-index in
    let first : Closure = record { from = 0; to = 0 } in
    let k = get_or xs i first in
    c.in_ok-put_span.ensures
    ∙ ap (λ t. t ++ span_text c.args.clock k.from k.to) c.in_ok-put.ensures
    ∙ append_assoc c.loop-closure.out.items (codes ", closed") (span_text c.args.clock k.from k.to)
    ∙ ap (λ t. t ++ shown k) c.loop-closure.invariant
    ∙ flat_map_take_more shown c.args.out.now.items xs i first c.loop-closure-test.true
