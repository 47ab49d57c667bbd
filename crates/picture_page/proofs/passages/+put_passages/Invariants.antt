use Rattle.std.proofs.Common.{length}
use Rattle.picture_page.proofs.passages.+put_passages.Given as goal

abbrev pub decreases-put_passages : goal.decreases-put_passages
decreases-put_passages l = length l.beats.now
