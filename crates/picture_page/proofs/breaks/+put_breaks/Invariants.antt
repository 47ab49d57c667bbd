use Rattle.std.proofs.Common.{length}
use Rattle.picture_page.proofs.breaks.+put_breaks.Given as goal

abbrev pub decreases-put_breaks : goal.decreases-put_breaks
decreases-put_breaks l = length l.pieces.now
