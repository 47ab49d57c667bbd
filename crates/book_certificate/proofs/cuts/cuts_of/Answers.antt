use Rattle.std.proofs.Common.{◌≡◌, ◌^◌, None, slice_get, rules}
use Rattle.book_certificate.proofs.CutLemmas.{more-copied, all-copied, few-cuts}
use Rattle.book_certificate.proofs.cuts.cuts_of.Goals as goal

pub loop-cut-preserved : goal.loop-cut-preserved
loop-cut-preserved c =
    more-copied c.args.book.now.cuts c.loop-cut.cuts c.push.new.self c.count.result c.in-Some.cut.now c.in_ok-cert_cut.field-0 c.count.ensures.value c.in-Some.ensures.some c.in_ok-cert_cut.ensures c.in_ok-push.ensures.ok c.loop-cut.invariant

pub returns-clause-value : goal.returns-clause-value
returns-clause-value c =
    let none : slice_get c.args.book.now.cuts c.count.result ≡ None = search rules in
    all-copied c.args.book.now.cuts c.loop-cut.cuts c.count.result c.count.ensures.value none c.loop-cut.invariant

pub returns-clause-few : goal.returns-clause-few
returns-clause-few c =
    let none : slice_get c.args.book.now.cuts c.count.result ≡ None = search rules in
    few-cuts c.args.book.now.cuts c.count.result (2 ^ 63) c.count.ensures.small none
