use Rattle.std.proofs.Common.{◌≡◌, ◌+◌, sym, ap, ◌∙◌}
use Rattle.lock_rules.specs.Node.{times_on}
use Rattle.sweep.specs.Judging.{lines_in}
use Rattle.sweep.proofs.BoundLemmas.{sum_more}
use Rattle.sweep.proofs.JudgeLemmas.{line-read}
use Rattle.sweep.proofs.judging.times_over.Goals as goal

pub loop-chamber-preserved : goal.loop-chamber-preserved
loop-chamber-preserved c =
    let lines = c.args.lines.now in
    let n = c.loop-chamber.chamber in
    let so_far = c.loop-chamber.times in
    let read = line-read lines n c.index-lines-chamber.result c.loop-chamber-test.true c.index-lines-chamber.is in
    let own : c.in_ok-times_on.field-0 ≡ times_on c.args.ship (lines_in lines n) = c.in_ok-times_on.ensures ∙ ap (times_on c.args.ship) (c.deref.ensures.value ∙ sym read) in
    sum_more (λ d. times_on c.args.ship (lines_in lines d)) n so_far c.in_ok-times.times c.loop-chamber.invariant (c.in_ok-times.ensures ∙ ap (λ m. so_far + m) own)
