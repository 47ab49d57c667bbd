use Rattle.std.proofs.Common.{rules, ◌≡◌, length, Some, None, slice_get}
use Rattle.search_book.proofs.LearningLemmas.{whole, one_more, no_more}
use Rattle.search_book.proofs.learning.learn_cuts.Goals as goal

pub cuts-preserved : goal.cuts-preserved
cuts-preserved c =
    let cuts = c.args.book.now.cuts in
    let known = c.cuts.known.items in
    let at : slice_get cuts (length known) ≡ Some c.in-Some.cut.now = search rules in
    one_more known c.learn_cut.new.known.items cuts c.in-Some.cut.now at c.in_ok-learn_cut.ensures.learned (whole c.args.known.now.items cuts) c.cuts.invariant

pub returns : goal.returns
returns c =
    let cuts = c.args.book.now.cuts in
    let known = c.cuts.known.items in
    let at : slice_get cuts (length known) ≡ None = search rules in
    no_more known cuts (whole c.args.known.now.items cuts) at c.cuts.invariant
