use Rattle.std.proofs.Common.{length}
use Rattle.picture_page.proofs.spans.+limit_in.Given as goal

abbrev pub decreases-limit_in : goal.decreases-limit_in
decreases-limit_in l = length l.gaps.now
