use Rattle.std.proofs.Common.{length}
use Rattle.picture_page.proofs.scales.+serves_all.Given as goal

abbrev pub decreases-serves_all : goal.decreases-serves_all
decreases-serves_all l = length l.chambers.now
