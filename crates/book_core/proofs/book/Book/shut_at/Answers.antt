use Rattle.std.proofs.Common.{refl, ap, arith}
use Rattle.book_core.specs.declared.reply.Reply.TheVariants as reply
use Rattle.book_core.specs.declared.reply.Refusal.TheVariants as refusing
use Rattle.book_core.specs.Replies.{IsCheaper, IsShut}
use Rattle.book_core.proofs.book.Book.shut_at.Goals as goal

pub returns-then-cost-best : goal.returns-then-cost-best
returns-then-cost-best c =
    IsCheaper (omega (arith, c.if-cost-best.true, c.best_cost-best.ensures)) (ap (λ best. reply.Refused (refusing.Cheaper c.args.cost best)) c.best_cost-best.ensures) refl

pub settle-requires-clause-sound : goal.settle-requires-clause-sound
settle-requires-clause-sound c = c.requires.sound (omega (arith, c.if-cost-best.false, c.best_cost-best.ensures))

pub returns : goal.returns
returns c = IsShut (omega (arith, c.if-cost-best.false, c.best_cost-best.ensures)) refl c.settle.ensures
