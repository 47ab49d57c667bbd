use Rattle.std.proofs.Common.{length}
use Rattle.picture_page.proofs.spans.+put_spans.Given as goal

abbrev pub decreases-put_spans : goal.decreases-put_spans
decreases-put_spans l = length l.points.now
