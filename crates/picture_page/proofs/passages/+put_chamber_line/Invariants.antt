use Rattle.std.proofs.Common.{length}
use Rattle.picture_page.proofs.passages.+put_chamber_line.Given as goal

abbrev pub decreases-put_chamber_line : goal.decreases-put_chamber_line
decreases-put_chamber_line l = length l.passages.now
