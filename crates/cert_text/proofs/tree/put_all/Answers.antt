use Rattle.std.proofs.Common.{◌∙◌, ◌++◌, ap, get_or, map}
use Rattle.certificate_rules.specs.declared.certificate.Mark.TheVariants.{Split}
use Rattle.cert_text.specs.Fields.{number_data}
use Rattle.cert_text.specs.Marks.{mark_numbers}
use Rattle.cert_text.proofs.TreeLemmas.{marks_more}
use Rattle.cert_text.proofs.tree.put_all.Goals as goal

pub loop-mark-preserved : goal.loop-mark-preserved
loop-mark-preserved c =
    let numbers = mark_numbers c.args.numbering in
    c.in_ok-push_mark.ensures ∙ ap (λ ds. ds ++ map number_data (numbers (get_or c.args.marks.now c.loop-mark.mark-index Split))) c.loop-mark.invariant
    ∙ marks_more numbers c.args.marks.now c.loop-mark.mark-index Split c.loop-mark-test.true
