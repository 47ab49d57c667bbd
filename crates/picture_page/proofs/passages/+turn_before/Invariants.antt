use Rattle.std.proofs.Common.{length}
use Rattle.picture_page.proofs.passages.+turn_before.Given as goal

abbrev pub decreases-turn_before : goal.decreases-turn_before
decreases-turn_before l = length l.beats.now
