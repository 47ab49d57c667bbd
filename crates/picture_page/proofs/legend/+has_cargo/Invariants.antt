use Rattle.std.proofs.Common.{length}
use Rattle.picture_page.proofs.legend.+has_cargo.Given as goal

abbrev pub decreases-has_cargo : goal.decreases-has_cargo
decreases-has_cargo l = length l.ships.now
