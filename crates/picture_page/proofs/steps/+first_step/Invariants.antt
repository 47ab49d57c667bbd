use Rattle.std.proofs.Common.{length}
use Rattle.picture_page.proofs.steps.+first_step.Given as goal

abbrev pub decreases-first_step : goal.decreases-first_step
decreases-first_step l = length l.steps.now
