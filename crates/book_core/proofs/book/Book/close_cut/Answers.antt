use Rattle.std.proofs.Common.{refl, sym, ◌∙◌}
use Rattle.closing_rules.specs.declared.grounds.Ground.TheVariants as by
use Rattle.book_rules.specs.Events as machine
use Rattle.book_core.specs.declared.reply.Reply.TheVariants as reply
use Rattle.book_core.specs.declared.reply.Refusal.TheVariants as refusing
use Rattle.book_core.proofs.CloseLemmas.{missed, refused, cut-misses, cut-hits}
use Rattle.book_core.proofs.book.Book.close_cut.Goals as goal

pub returns-then-not-may_close : goal.returns-then-not-may_close
returns-then-not-may_close c = missed c.args.self.now c.args.id (by.Cut c.args.number) (sym c.may_close.ensures.value ∙ c.if-not-may_close.true)

pub returns-then-not-hits : goal.returns-then-not-hits
returns-then-not-hits c =
    refused c.args.self.now c.args.id (by.Cut c.args.number) (reply.Refused (refusing.NoHit c.args.number)) (machine.NoHit c.args.number) refl (sym c.may_close.ensures.value ∙ c.if-not-may_close.false)
    (cut-misses c.args.self.now c.args.id c.args.number (sym c.hits.ensures ∙ c.if-not-hits.true))

pub shut-requires-clause-held : goal.shut-requires-clause-held
shut-requires-clause-held c = sym c.may_close.ensures.value ∙ c.if-not-may_close.false

pub shut-requires-clause-unrefused : goal.shut-requires-clause-unrefused
shut-requires-clause-unrefused c = cut-hits c.args.self.now c.args.id c.args.number (sym c.hits.ensures ∙ c.if-not-hits.false)
