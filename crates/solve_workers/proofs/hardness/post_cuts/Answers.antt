use Rattle.solve_workers.proofs.DrivenLemmas.{driven_none, driven_then}
use Rattle.solve_workers.proofs.hardness.post_cuts.Goals as goal

pub loop-number-init : goal.loop-number-init
loop-number-init c = (c.requires.free, driven_none c.args.book.now)

pub loop-number-preserved : goal.loop-number-preserved
loop-number-preserved c =
    (c.post_free.ensures.free, driven_then c.args.book.now c.loop-number.book c.post_free.new.book c.loop-number.invariant.1 c.post_free.ensures.driven)
