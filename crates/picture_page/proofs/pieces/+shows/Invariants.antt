use Rattle.std.proofs.Common.{length}
use Rattle.picture_page.proofs.pieces.+shows.Given as goal

abbrev pub decreases-shows : goal.decreases-shows
decreases-shows l = length l.pieces.now
