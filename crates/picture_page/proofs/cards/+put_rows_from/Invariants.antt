use Rattle.std.proofs.Common.{length}
use Rattle.picture_page.proofs.cards.+put_rows_from.Given as goal

abbrev pub decreases-put_rows_from : goal.decreases-put_rows_from
decreases-put_rows_from l = length l.places.now
