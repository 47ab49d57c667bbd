use Rattle.std.proofs.Common.{refl, sym, ◌∙◌}
use Rattle.closing_rules.specs.declared.grounds.Ground.TheVariants as by
use Rattle.book_rules.specs.Events as machine
use Rattle.book_core.specs.declared.reply.Reply.TheVariants as reply
use Rattle.book_core.specs.declared.reply.Refusal.TheVariants as refusing
use Rattle.book_core.proofs.CloseLemmas.{missed, refused}
use Rattle.book_core.proofs.book.Book.close_unswept.Goals as goal

pub returns-then-not-may_close : goal.returns-then-not-may_close
returns-then-not-may_close c = missed c.args.self.now c.args.id (by.Swept c.args.number) (sym c.may_close.ensures.value ∙ c.if-not-may_close.true)

pub returns : goal.returns
returns c = refused c.args.self.now c.args.id (by.Swept c.args.number) (reply.Refused refusing.NotSwept) machine.NotSwept refl (sym c.may_close.ensures.value ∙ c.if-not-may_close.false) refl
