use Rattle.std.proofs.Common.{◌<◌, length, ap, subst, arith}
use Rattle.sweep.specs.Judging.{lines_in, IsUncutLine}
use Rattle.sweep.proofs.JudgeLemmas.{line-read, lines-more}
use Rattle.sweep.proofs.judging.flow_over.Goals as goal

pub loop-chamber-preserved : goal.loop-chamber-preserved
loop-chamber-preserved c =
    let asked = c.args.asked.now in
    let lines = c.args.lines.now in
    let line = c.index-lines-chamber.result in
    let n = c.loop-chamber.chamber in
    let within : n < length lines = omega (arith, c.loop-chamber-test.true, c.requires, ap length c.as_slice.ensures.value) in
    lines-more asked (lines_in lines) n c.loop-chamber.flow c.in_ok-uncut_flow.field-0 c.in_ok-flow.flow line.items (line-read lines n line within c.index-lines-chamber.is)
    c.loop-chamber.invariant
    (subst (λ own. IsUncutLine asked n own c.in_ok-uncut_flow.field-0) c.deref.ensures.value c.in_ok-uncut_flow.ensures)
    c.in_ok-flow.ensures
