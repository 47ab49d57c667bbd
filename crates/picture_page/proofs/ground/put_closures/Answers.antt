use Rattle.std.proofs.Common.{◌++◌, get_or, ap, ◌∙◌}
use Rattle.plan_print.proofs.TextLemmas.{flat_map_take_more}
use Rattle.lock_model.specs.declared.closure.Closure.{Closure}
use Rattle.picture_page.specs.Ground.{closure_of}
use Rattle.picture_page.proofs.ground.put_closures.Goals as goal

pub loop-closure-preserved : goal.loop-closure-preserved
loop-closure-preserved c =
    let shown = closure_of c.args.axis.now in
    let xs = c.as_slice-closure-items.result.now in
    let i = c.loop-closure.closure-index in
    let first : Closure = record { from = 0; to = 0 } in
    c.in_ok-put_closure.ensures
    ∙ ap (λ t. t ++ shown (get_or xs i first)) c.loop-closure.invariant
    ∙ flat_map_take_more shown c.args.out.now.items xs i first c.loop-closure-test.true
