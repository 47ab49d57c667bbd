use Rattle.std.proofs.Common.{length}
use Rattle.picture_page.proofs.passage.+has.Given as goal

abbrev pub decreases-has : goal.decreases-has
decreases-has l = length l.ships.now
