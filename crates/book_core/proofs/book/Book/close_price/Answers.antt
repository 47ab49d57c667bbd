use Rattle.std.proofs.Common.{refl, sym, ◌∙◌}
use Rattle.closing_rules.specs.declared.grounds.Ground.TheVariants as by
use Rattle.book_rules.specs.Events as machine
use Rattle.book_rules.specs.Events.{close_price}
use Rattle.book_core.specs.declared.reply.Reply.TheVariants as reply
use Rattle.book_core.specs.declared.reply.Refusal.TheVariants as refusing
use Rattle.book_core.specs.Telling.{told_shown}
use Rattle.book_core.proofs.CloseLemmas.{event-missed, event-refused}
use Rattle.book_core.proofs.ShowingLemmas.{reached-shown, refusal, no-prices, not-shown, shown-sound, shown-answers}
use Rattle.book_core.proofs.book.Book.close_price.Goals as goal

pub returns-then-not-may_close : goal.returns-then-not-may_close
returns-then-not-may_close c =
    let shown = told_shown c.args.shown.now in
    event-missed c.args.self.now c.args.id (by.Price c.args.number) (close_price c.args.id c.args.number shown) (refusal c.args.self.now c.args.id c.args.number shown) refl tt
    (sym c.may_close.ensures.value ∙ c.if-not-may_close.true)

pub returns-then-not-is_shown : goal.returns-then-not-is_shown
returns-then-not-is_shown c =
    let shown = told_shown c.args.shown.now in
    event-refused c.args.self.now c.args.id (by.Price c.args.number) (close_price c.args.id c.args.number shown) (refusal c.args.self.now c.args.id c.args.number shown) refl tt
    (reply.Refused refusing.NotShown) machine.NotShown refl (sym c.may_close.ensures.value ∙ c.if-not-may_close.false)
    (not-shown c.args.self.now c.args.id c.args.number shown c.in-Some.prices.now c.in-Some.ensures.some (sym c.is_shown.ensures ∙ c.if-not-is_shown.true))

pub returns-in-None : goal.returns-in-None
returns-in-None c =
    let shown = told_shown c.args.shown.now in
    event-refused c.args.self.now c.args.id (by.Price c.args.number) (close_price c.args.id c.args.number shown) (refusal c.args.self.now c.args.id c.args.number shown) refl tt
    (reply.Refused (refusing.NoPrices c.args.number)) (machine.NoPrices c.args.number) refl (sym c.may_close.ensures.value ∙ c.if-not-may_close.false)
    (no-prices c.args.self.now c.args.id c.args.number shown c.in-None.ensures.none)

pub shut_at-requires-clause-sound : goal.shut_at-requires-clause-sound
shut_at-requires-clause-sound c =
    shown-sound c.args.self.now c.args.id c.args.number (told_shown c.args.shown.now) c.in-Some.prices.now c.in-Some.ensures.some (sym c.is_shown.ensures ∙ c.if-not-is_shown.false)
    (sym c.may_close.ensures.value ∙ c.if-not-may_close.false) c.cost.result c.cost.ensures.value (reached-shown c.args.shown.now c.cost.ensures.reached) c.may_close.ensures.sound

pub returns-else-not-is_shown : goal.returns-else-not-is_shown
returns-else-not-is_shown c =
    shown-answers c.args.self.now c.args.id c.args.number (told_shown c.args.shown.now) c.in-Some.prices.now c.in-Some.ensures.some (sym c.is_shown.ensures ∙ c.if-not-is_shown.false)
    (sym c.may_close.ensures.value ∙ c.if-not-may_close.false) c.cost.result c.cost.ensures.value c.shut_at.result c.shut_at.new.self c.shut_at.ensures
