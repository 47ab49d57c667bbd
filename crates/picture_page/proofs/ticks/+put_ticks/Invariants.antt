use Rattle.std.proofs.Common.{length}
use Rattle.picture_page.proofs.ticks.+put_ticks.Given as goal

abbrev pub decreases-put_ticks : goal.decreases-put_ticks
decreases-put_ticks l = length l.marks.now
