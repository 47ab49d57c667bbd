use Rattle.std.proofs.Common.{length}
use Rattle.picture_page.proofs.scales.+least_scale.Given as goal

abbrev pub decreases-least_scale : goal.decreases-least_scale
decreases-least_scale l = length l.chambers.now
