use Rattle.cert_text.specs.Marks.{mark_in}
use Rattle.cert_text.proofs.TreeLemmas.{told_more, told_none}
use Rattle.cert_text.proofs.tree.marks_in.Goals as goal

pub loop-value-preserved : goal.loop-value-preserved
loop-value-preserved c =
    told_more (mark_in c.args.form c.args.numbering c.args.version) c.args.list.now c.loop-value.tree c.loop-value.begun c.loop-value.value-index c.loop-value.invariant
    c.value-item.result c.in-Some.told c.begun_behind-begun.result c.push_told.new.tree c.loop-value-test.true c.value-item.is c.in-Some.ensures c.begun_behind-begun.ensures c.in_ok-push_told.ensures

pub returns-in_default : goal.returns-in_default
returns-in_default c =
    told_none (mark_in c.args.form c.args.numbering c.args.version) c.args.list.now c.loop-value.tree c.loop-value.begun c.loop-value.value-index c.loop-value.invariant
    c.value-item.result c.loop-value-test.true c.value-item.is c.in_default.ensures
