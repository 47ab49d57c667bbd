use Rattle.std.proofs.Common.{length}
use Rattle.picture_page.proofs.legend.+has_closure.Given as goal

abbrev pub decreases-has_closure : goal.decreases-has_closure
decreases-has_closure l = length l.closures.now
