use Rattle.std.proofs.Common.{length}
use Rattle.picture_page.proofs.ticks.+put_marks.Given as goal

abbrev pub decreases-put_marks : goal.decreases-put_marks
decreases-put_marks l = length l.pieces.now
