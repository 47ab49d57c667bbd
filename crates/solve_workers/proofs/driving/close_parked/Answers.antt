use Rattle.std.proofs.Common.{refl, ◌∙◌}
use Rattle.solve_workers.proofs.DrivenLemmas.{driven_none, driven_then}
use Rattle.solve_workers.proofs.TidyLemmas.{tidied_none}
use Rattle.solve_workers.proofs.driving.close_parked.Goals as goal

pub loop-id-init : goal.loop-id-init
loop-id-init c = (tidied_none c.args.book.now c.requires.free c.requires.done, driven_none c.args.book.now, refl)

pub loop-id-preserved : goal.loop-id-preserved
loop-id-preserved c = (
  c.close_if_parked.ensures.tidied,
  driven_then c.args.book.now c.loop-id.book c.close_if_parked.new.book c.loop-id.invariant.1 c.close_if_parked.ensures.driven,
  c.close_if_parked.ensures.count ∙ c.loop-id.invariant.2,
)
