use Rattle.std.proofs.Common.{◌∙◌}
use Rattle.book_certificate.proofs.WholeLemmas.{is-standing, is-formed, shows-verdict, many-marks, more-marks}
use Rattle.book_certificate.proofs.open_certificate.open_certificate_of.Goals as goal

pub returns-clause-stands : goal.returns-clause-stands
returns-clause-stands c =
    is-standing c.args.book.now c.keeps.ensures.keeps c.keeps.ensures.parts _
    (record { cost = c.best_cost.ensures; cuts = c.in_ok-cuts_of.ensures.value; plan = c.copy.ensures ∙ c.best.ensures.value; prices = c.in_ok-prices_of.ensures.value; marks = c.in_ok-marks_of.ensures })

pub returns-clause-formed : goal.returns-clause-formed
returns-clause-formed c =
    is-formed c.args.book.now c.keeps.ensures.keeps c.keeps.ensures.parts _
    (record { cost = c.best_cost.ensures; cuts = c.in_ok-cuts_of.ensures.value; plan = c.copy.ensures ∙ c.best.ensures.value; prices = c.in_ok-prices_of.ensures.value; marks = c.in_ok-marks_of.ensures }) c.in_ok-prices_of.ensures.few c.in_ok-cuts_of.ensures.few

pub returns-clause-low : goal.returns-clause-low
returns-clause-low c =
    shows-verdict c.args.book.now c.keeps.ensures.keeps c.keeps.ensures.parts _
    (record { cost = c.best_cost.ensures; cuts = c.in_ok-cuts_of.ensures.value; plan = c.copy.ensures ∙ c.best.ensures.value; prices = c.in_ok-prices_of.ensures.value; marks = c.in_ok-marks_of.ensures })

pub returns-clause-marks : goal.returns-clause-marks
returns-clause-marks c =
    many-marks c.args.book.now c.keeps.ensures.keeps c.keeps.ensures.parts _
    (record { cost = c.best_cost.ensures; cuts = c.in_ok-cuts_of.ensures.value; plan = c.copy.ensures ∙ c.best.ensures.value; prices = c.in_ok-prices_of.ensures.value; marks = c.in_ok-marks_of.ensures })

pub returns-clause-more : goal.returns-clause-more
returns-clause-more c =
    more-marks c.args.book.now c.keeps.ensures.keeps c.keeps.ensures.parts _
    (record { cost = c.best_cost.ensures; cuts = c.in_ok-cuts_of.ensures.value; plan = c.copy.ensures ∙ c.best.ensures.value; prices = c.in_ok-prices_of.ensures.value; marks = c.in_ok-marks_of.ensures })
