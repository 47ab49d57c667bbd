use Rattle.std.proofs.Common.{length}
use Rattle.picture_page.proofs.pieces.+last_minute.Given as goal

abbrev pub decreases-last_minute : goal.decreases-last_minute
decreases-last_minute l = length l.pieces.now
