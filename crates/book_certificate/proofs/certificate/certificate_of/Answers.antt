use Rattle.std.proofs.Common.{rules}
use Rattle.book_certificate.specs.Certified.{HasNoLive}
use Rattle.book_certificate.proofs.WholeLemmas.{is-accepted}
use Rattle.book_certificate.proofs.VerdictLemmas.{live-verdict}
use Rattle.book_certificate.proofs.certificate.certificate_of.Goals as goal

pub returns-in-Ok-clause-accepted : goal.returns-in-Ok-clause-accepted
returns-in-Ok-clause-accepted c =
    let shut : HasNoLive c.args.book.now = search rules in
    is-accepted c.args.book.now c.keeps.ensures.keeps c.keeps.ensures.parts _ c.in-Ok.ensures.certified shut

pub returns-in-Some-clause-finished : goal.returns-in-Some-clause-finished
returns-in-Some-clause-finished c = λ e. absurd (live-verdict c.args.book.now c.in-Some.field-0 c.in-Some.ensures.some.known c.in-Some.ensures.some.live e)
