use Rattle.std.proofs.Common.{◌++◌, [], ◌∷◌, ◌∙◌, ap}
use Rattle.book_certificate.proofs.WritingLemmas.{leaf-written}
use Rattle.book_certificate.proofs.marks.write_leaf.Goals as goal

pub returns : goal.returns
returns c = leaf-written c.args.book.now c.args.id c.args.marks.now c.push.new.self c.requires.whole (c.in_ok-push.ensures.ok ∙ ap (λ m. c.args.marks.now ++ m ∷ []) c.mark_at.ensures)
