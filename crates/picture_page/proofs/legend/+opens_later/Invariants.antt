use Rattle.std.proofs.Common.{length}
use Rattle.picture_page.proofs.legend.+opens_later.Given as goal

abbrev pub decreases-opens_later : goal.decreases-opens_later
decreases-opens_later l = length l.chambers.now
