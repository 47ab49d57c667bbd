use Rattle.std.proofs.Common.{sym, ap, ◌∙◌}
use Rattle.lock_model.specs.declared.instance.Instance.{Instance}
use Rattle.book_rules.specs.Tests.{is_own_cut}
use Rattle.book_core.proofs.PostLemmas.{post-other, post-sound, post-done}
use Rattle.book_core.proofs.book.Book.post.Goals as goal

pub returns-then-not-is_own : goal.returns-then-not-is_own
returns-then-not-is_own c = post-other c.args.self.now c.args.cut (ap (λ (I : Instance). is_own_cut I c.args.cut) (sym c.instance.ensures) ∙ sym c.is_own.ensures ∙ c.if-not-is_own.true)

pub keep_cut-requires : goal.keep_cut-requires
keep_cut-requires c =
    post-sound c.args.self.now c.args.cut c.cuts_len-number.ensures.sound c.known_cut.ensures
    (ap (λ (I : Instance). is_own_cut I c.args.cut) (sym c.instance.ensures) ∙ sym c.is_own.ensures ∙ c.if-not-is_own.false)

pub returns-in-Ok : goal.returns-in-Ok
returns-in-Ok c =
    post-done c.args.self.now c.args.cut c.cuts_len-number.result c.keep_cut.new.self
    (ap (λ (I : Instance). is_own_cut I c.args.cut) (sym c.instance.ensures) ∙ sym c.is_own.ensures ∙ c.if-not-is_own.false)
    c.cuts_len-number.ensures.value c.in-Ok.ensures.some
