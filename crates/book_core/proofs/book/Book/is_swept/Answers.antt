use Rattle.std.proofs.Common.{◌≡◌, sym, ap, ◌∙◌, false, true, ◌&&◌, map}
use Rattle.lock_model.specs.declared.instance.Instance.{Instance}
use Rattle.book_rules.specs.Same.{same_instance}
use Rattle.book_rules.specs.Shown.{are_first_cuts}
use Rattle.book_core.specs.Telling.{told_cut}
use Rattle.book_core.proofs.ShowingLemmas.{told-instance}
use Rattle.book_core.proofs.book.Book.is_swept.Goals as goal

pub returns-then-not-is_of : goal.returns-then-not-is_of
returns-then-not-is_of c =
    let I = c.args.self.now.case.instance in
    let claim = c.args.swept.now in
    let other : same_instance claim.instance I ≡ false = ap (λ (J : Instance). same_instance J I) (sym c.instance.ensures) ∙ sym (told-instance c.is_of.result c.instance.result.now I c.is_of.ensures) ∙ c.if-not-is_of.true in
    ap (λ t. t && are_first_cuts (map told_cut claim.cuts) c.args.self.now.cuts) (sym other)

pub returns : goal.returns
returns c =
    let b = c.args.self.now in
    let I = b.case.instance in
    let claim = c.args.swept.now in
    let same : same_instance claim.instance I ≡ true = ap (λ (J : Instance). same_instance J I) (sym c.instance.ensures) ∙ sym (told-instance c.is_of.result c.instance.result.now I c.is_of.ensures) ∙ c.if-not-is_of.false in
    let first : c.has_first_cuts.result ≡ are_first_cuts (map told_cut claim.cuts) b.cuts = c.has_first_cuts.ensures ∙ ap (λ l. are_first_cuts (map told_cut l) b.cuts) c.cuts.ensures in
    (λ i. sym same i && first i)
