use Rattle.std.proofs.Common.{◌≡◌, sym, ap, ◌∙◌, false, true, map}
use Rattle.lock_model.specs.declared.instance.Instance.{Instance}
use Rattle.lock_rules.specs.Node.{Node}
use Rattle.closing_rules.specs.ListedPrices.{same_prices}
use Rattle.book_rules.specs.Book.{slot_at}
use Rattle.book_rules.specs.Same.{same_instance, same_node}
use Rattle.book_rules.specs.Shown.{are_first_cuts}
use Rattle.book_core.specs.Telling.{told_cut}
use Rattle.book_core.proofs.ShowingLemmas.{told-instance, all_four}
use Rattle.book_core.proofs.book.Book.is_shown.Goals as goal

pub returns-then-not-is_of : goal.returns-then-not-is_of
returns-then-not-is_of c =
    let I = c.args.self.now.case.instance in
    let node = (slot_at c.args.self.now c.args.id).node in
    let claim = c.args.shown.now in
    let other : same_instance claim.instance I ≡ false = ap (λ (J : Instance). same_instance J I) (sym c.instance.ensures) ∙ sym (told-instance c.is_of.result c.instance.result.now I c.is_of.ensures) ∙ c.if-not-is_of.true in
    ap (λ t. all_four t (same_node claim.node node) (same_prices claim.prices c.args.prices.now) (are_first_cuts (map told_cut claim.cuts) c.args.self.now.cuts)) (sym other)

pub returns : goal.returns
returns c =
    let b = c.args.self.now in
    let I = b.case.instance in
    let node = (slot_at b c.args.id).node in
    let claim = c.args.shown.now in
    let prices = c.args.prices.now in
    let same : same_instance claim.instance I ≡ true = ap (λ (J : Instance). same_instance J I) (sym c.instance.ensures) ∙ sym (told-instance c.is_of.result c.instance.result.now I c.is_of.ensures) ∙ c.if-not-is_of.false in
    let own : same_node claim.node node ≡ true = ap (λ (m : Node). same_node m node) (sym c.node.ensures) ∙ sym c.has_node.ensures ∙ c.if-not-has_node.false in
    let paid : same_prices claim.prices prices ≡ true = ap (λ u. same_prices u prices) (sym c.prices.ensures) ∙ sym c.equals.ensures ∙ c.if-not-equals.false in
    let first : c.has_first_cuts.result ≡ are_first_cuts (map told_cut claim.cuts) b.cuts = c.has_first_cuts.ensures ∙ ap (λ l. are_first_cuts (map told_cut l) b.cuts) c.cuts.ensures in
    (λ i. all_four (sym same i) (sym own i) (sym paid i) (first i))
