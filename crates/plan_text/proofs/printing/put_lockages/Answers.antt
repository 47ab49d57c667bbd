use Rattle.std.proofs.Common.{◌++◌, get_or, ap, ◌∙◌}
use Rattle.std.specs.List.{flat_map}
use Rattle.line_text.specs.Printed.{line}
use Rattle.plan_text.specs.Printing.{lockage_lines}
use Rattle.plan_text.proofs.PrintLemmas.{lines_more}
use Rattle.plan_text.proofs.printing.put_lockages.Goals as goal

pub loop-lockage-preserved : goal.loop-lockage-preserved
loop-lockage-preserved c =
    let shown = lockage_lines c.args.instance.now in
    let ls = c.args.lockages.now in
    let i = c.loop-lockage.lockage-index in
    c.in_ok-put_lockage.ensures
    ∙ ap (λ l. c.loop-lockage.out.items ++ flat_map line (shown l)) c.lockage-item.is
    ∙ ap (λ t. t ++ flat_map line (shown (get_or ls i c.lockage-item.result))) c.loop-lockage.invariant
    ∙ lines_more shown c.args.out.now.items ls i c.lockage-item.result c.loop-lockage-test.true
