use Rattle.std.proofs.Common.{sym, ◌∙◌}
use Rattle.book_core.specs.Telling.{told_shown}
use Rattle.book_core.proofs.LowLemmas.{low-missed, low-unpriced, low-unshown, low-sound, low-answers}
use Rattle.book_core.proofs.ShowingLemmas.{reached-shown}
use Rattle.book_core.proofs.book.Book.show_low.Goals as goal

pub returns-then-not-is_live : goal.returns-then-not-is_live
returns-then-not-is_live c = low-missed c.args.self.now c.args.id c.args.number (told_shown c.args.shown.now) (sym c.is_live.ensures.value ∙ c.if-not-is_live.true)

pub returns-in-None : goal.returns-in-None
returns-in-None c = low-unpriced c.args.self.now c.args.id c.args.number (told_shown c.args.shown.now) (sym c.is_live.ensures.value ∙ c.if-not-is_live.false) c.in-None.ensures.none

pub returns-then-not-is_shown : goal.returns-then-not-is_shown
returns-then-not-is_shown c =
    low-unshown c.args.self.now c.args.id c.args.number (told_shown c.args.shown.now) (sym c.is_live.ensures.value ∙ c.if-not-is_live.false) c.in-Some.prices.now c.in-Some.ensures.some
    (sym c.is_shown.ensures ∙ c.if-not-is_shown.true)

pub raise_low-requires-clause-sound : goal.raise_low-requires-clause-sound
raise_low-requires-clause-sound c =
    low-sound c.args.self.now c.args.id c.args.number (told_shown c.args.shown.now) (sym c.is_live.ensures.value ∙ c.if-not-is_live.false) c.in-Some.prices.now c.in-Some.ensures.some
    (sym c.is_shown.ensures ∙ c.if-not-is_shown.false) c.cost.result c.cost.ensures.value (reached-shown c.args.shown.now c.cost.ensures.reached) c.is_live.ensures.sound

pub returns-else-not-is_shown : goal.returns-else-not-is_shown
returns-else-not-is_shown c =
    low-answers c.args.self.now c.args.id c.args.number (told_shown c.args.shown.now) (sym c.is_live.ensures.value ∙ c.if-not-is_live.false) c.in-Some.prices.now c.in-Some.ensures.some
    (sym c.is_shown.ensures ∙ c.if-not-is_shown.false) c.cost.result c.cost.ensures.value c.raise_low.result c.raise_low.new.self c.raise_low.ensures
