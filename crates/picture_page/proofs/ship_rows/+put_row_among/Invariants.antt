use Rattle.std.proofs.Common.{length}
use Rattle.picture_page.proofs.ship_rows.+put_row_among.Given as goal

abbrev pub decreases-put_row_among : goal.decreases-put_row_among
decreases-put_row_among l = length l.passages.now
