use Rattle.std.proofs.Common.{ℕ}
use Rattle.picture_page.specs.Capped.{plus, times}
use Rattle.picture_page.specs.Ticks.{mark_at}
use Rattle.picture_page.proofs.TickLemmas.{map_more}
use Rattle.picture_page.proofs.ticks.put_multiples.Goals as goal

pub loop-k-preserved : goal.loop-k-preserved
loop-k-preserved c =
    let mark = λ (k : ℕ). mark_at c.args.axis.now c.args.limit (plus c.args.first (times k c.args.axis.now.step)) in
    rw (c.in_ok-push.ensures.items, c.mark_at.ensures, c.saturating_add-minute.ensures, c.saturating_mul.ensures, c.step.ensures, c.loop-k.invariant)
    (map_more mark c.args.marks.now.items c.loop-k.k)
