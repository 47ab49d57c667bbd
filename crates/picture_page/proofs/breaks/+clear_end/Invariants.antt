use Rattle.std.proofs.Common.{length}
use Rattle.picture_page.proofs.breaks.+clear_end.Given as goal

abbrev pub decreases-clear_end : goal.decreases-clear_end
decreases-clear_end l = length l.breaks.now
