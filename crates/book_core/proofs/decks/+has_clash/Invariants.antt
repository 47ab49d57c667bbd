use Rattle.std.proofs.Common.{length}
use Rattle.book_core.proofs.decks.+has_clash.Given as goal

abbrev pub decreases-has_clash : goal.decreases-has_clash
decreases-has_clash l = length l.ships.now
