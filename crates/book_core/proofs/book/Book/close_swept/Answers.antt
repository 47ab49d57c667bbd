use Rattle.std.proofs.Common.{refl, sym, ◌∙◌}
use Rattle.closing_rules.specs.declared.grounds.Ground.TheVariants as by
use Rattle.book_rules.specs.Events as machine
use Rattle.book_rules.specs.Events.{close_swept}
use Rattle.book_core.specs.declared.reply.Reply.TheVariants as reply
use Rattle.book_core.specs.declared.reply.Refusal.TheVariants as refusing
use Rattle.book_core.specs.Telling.{told_swept}
use Rattle.book_core.proofs.CloseLemmas.{event-missed, event-refused}
use Rattle.book_core.proofs.SweepingLemmas.{swept-owed, refusal, not-root, without-prices, not-swept, swept-sound, swept-answers}
use Rattle.book_core.proofs.book.Book.close_swept.Goals as goal

pub returns-then-not-may_close : goal.returns-then-not-may_close
returns-then-not-may_close c =
    let swept = told_swept c.args.swept.now in
    event-missed c.args.self.now c.args.id (by.Swept c.args.number) (close_swept c.args.id c.args.number swept) (refusal c.args.self.now c.args.id c.args.number swept) refl tt
    (sym c.may_close.ensures.value ∙ c.if-not-may_close.true)

pub returns-then-not-is_root : goal.returns-then-not-is_root
returns-then-not-is_root c =
    let swept = told_swept c.args.swept.now in
    event-refused c.args.self.now c.args.id (by.Swept c.args.number) (close_swept c.args.id c.args.number swept) (refusal c.args.self.now c.args.id c.args.number swept) refl tt
    (reply.Refused refusing.NotRoot) machine.NotRoot refl (sym c.may_close.ensures.value ∙ c.if-not-may_close.false)
    (not-root c.args.self.now c.args.id c.args.number swept (sym c.is_root.ensures ∙ c.if-not-is_root.true))

pub returns-then-not-is_swept : goal.returns-then-not-is_swept
returns-then-not-is_swept c =
    let swept = told_swept c.args.swept.now in
    event-refused c.args.self.now c.args.id (by.Swept c.args.number) (close_swept c.args.id c.args.number swept) (refusal c.args.self.now c.args.id c.args.number swept) refl tt
    (reply.Refused refusing.NotSwept) machine.NotSwept refl (sym c.may_close.ensures.value ∙ c.if-not-may_close.false)
    (not-swept c.args.self.now c.args.id c.args.number swept (sym c.is_root.ensures ∙ c.if-not-is_root.false) c.in-Some.field-0.now c.in-Some.ensures.some (sym c.is_swept.ensures ∙ c.if-not-is_swept.true))

pub shut_at-requires-clause-sound : goal.shut_at-requires-clause-sound
shut_at-requires-clause-sound c =
    swept-sound c.args.self.now c.args.id c.args.number (told_swept c.args.swept.now) (sym c.is_root.ensures ∙ c.if-not-is_root.false) c.in-Some.field-0.now c.in-Some.ensures.some
    (sym c.is_swept.ensures ∙ c.if-not-is_swept.false) (sym c.may_close.ensures.value ∙ c.if-not-may_close.false) c.cost.result c.cost.ensures.value
    (swept-owed c.args.swept.now c.cost.ensures.swept) c.may_close.ensures.sound

pub returns-else-not-is_swept : goal.returns-else-not-is_swept
returns-else-not-is_swept c =
    swept-answers c.args.self.now c.args.id c.args.number (told_swept c.args.swept.now) (sym c.is_root.ensures ∙ c.if-not-is_root.false) c.in-Some.field-0.now c.in-Some.ensures.some
    (sym c.is_swept.ensures ∙ c.if-not-is_swept.false) (sym c.may_close.ensures.value ∙ c.if-not-may_close.false) c.cost.result c.cost.ensures.value
    c.shut_at.result c.shut_at.new.self c.shut_at.ensures

pub returns-in-None : goal.returns-in-None
returns-in-None c =
    let swept = told_swept c.args.swept.now in
    event-refused c.args.self.now c.args.id (by.Swept c.args.number) (close_swept c.args.id c.args.number swept) (refusal c.args.self.now c.args.id c.args.number swept) refl tt
    (reply.Refused (refusing.NoPrices c.args.number)) (machine.NoPrices c.args.number) refl (sym c.may_close.ensures.value ∙ c.if-not-may_close.false)
    (without-prices c.args.self.now c.args.id c.args.number swept (sym c.is_root.ensures ∙ c.if-not-is_root.false) c.in-None.ensures.none)
