use Rattle.book_core.specs.Telling.{told_shown}
use Rattle.solve_workers.proofs.ShowingLemmas.{low_only}
use Rattle.solve_workers.proofs.lows.show_of_slot.Goals as goal

pub returns-in-Some : goal.returns-in-Some
returns-in-Some c = low_only c.args.book.now c.args.id c.args.number (told_shown c.shown_below.result) c.show_low.result c.show_low.new.self c.show_low.ensures
