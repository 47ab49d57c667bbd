use Rattle.std.proofs.Common.{length}
use Rattle.picture_page.proofs.spans.+put_with_ends.Given as goal

abbrev pub decreases-put_with_ends : goal.decreases-put_with_ends
decreases-put_with_ends l = length l.spans.now
