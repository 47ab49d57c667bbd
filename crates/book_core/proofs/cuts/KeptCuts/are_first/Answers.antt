use Rattle.std.proofs.Common.{◌<◌, length, map, take, sym, ap, ◌∙◌, arith}
use Rattle.std.proofs.lemmas.Bool.{lt-leb}
use Rattle.std.proofs.lemmas.List.{length-map}
use Rattle.std.specs.Cmp.Lexicographic.{pointwise}
use Rattle.price_terms.specs.Cuts.{same_cut}
use Rattle.book_rules.specs.Shown.{are_first_cuts}
use Rattle.book_core.specs.Telling.{told_cut, bare_cut}
use Rattle.book_core.proofs.ShowingLemmas.{first-more, first-told}
use Rattle.book_core.proofs.cuts.KeptCuts.are_first.Goals as goal

pub returns-then-count-len : goal.returns-then-count-len
returns-then-count-len c =
    let shown = c.args.shown.now in
    let cuts = c.self.inside.cuts.items in
    c.same_cuts.ensures
    ∙ ap (λ l. pointwise same_cut shown (take (length shown) l)) (c.deref.ensures.value ∙ c.self.invariant)
    ∙ first-told shown cuts (omega (arith, c.if-count-len.true, c.len.ensures, ap length c.self.invariant, length-map cuts bare_cut))
    ∙ ap (are_first_cuts (map told_cut shown)) c.self.view_is

pub returns-else-count-len : goal.returns-else-count-len
returns-else-count-len c =
    let shown = c.args.shown.now in
    let cuts = c.self.inside.cuts.items in
    let more : c.len.result < length shown = omega (arith, c.if-count-len.false) in
    lt-leb (length shown) c.len.result more
    ∙ sym (first-more shown cuts (omega (arith, more, c.len.ensures, ap length c.self.invariant, length-map cuts bare_cut)))
    ∙ ap (are_first_cuts (map told_cut shown)) c.self.view_is
