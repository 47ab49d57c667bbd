use Rattle.std.proofs.Common.{length}
use Rattle.picture_page.proofs.heads.+greatest_of.Given as goal

abbrev pub decreases-greatest_of : goal.decreases-greatest_of
decreases-greatest_of l = length l.events.now
