use Rattle.std.proofs.Common.{length}
use Rattle.picture_page.proofs.legend.+has_closures.Given as goal

abbrev pub decreases-has_closures : goal.decreases-has_closures
decreases-has_closures l = length l.chambers.now
