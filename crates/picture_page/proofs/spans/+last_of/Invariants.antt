use Rattle.std.proofs.Common.{length}
use Rattle.picture_page.proofs.spans.+last_of.Given as goal

abbrev pub decreases-last_of : goal.decreases-last_of
decreases-last_of l = length l.spans.now
