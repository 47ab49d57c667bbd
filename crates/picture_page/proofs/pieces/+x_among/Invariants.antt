use Rattle.std.proofs.Common.{length}
use Rattle.picture_page.proofs.pieces.+x_among.Given as goal

abbrev pub decreases-x_among : goal.decreases-x_among
decreases-x_among l = length l.pieces.now
