use Rattle.std.proofs.Common.{sym, ap, ◌∙◌}
use Rattle.std.specs.Bool.{one_answer}
use Rattle.lock_model.specs.declared.instance.Instance.{Instance}
use Rattle.lock_rules.specs.Node.{Node as TreeNode}
use Rattle.book_rules.specs.Step.{hits_in}
use Rattle.book_rules.specs.Tests.{is_node_hit}
use Rattle.book_rules.proofs.TestLemmas.{is_node_hit-decides}
use Rattle.book_core.proofs.book.Book.hits_in.Goals as goal

pub returns-in-Some : goal.returns-in-Some
returns-in-Some c =
    let b = c.args.self.now in
    let I = c.instance.result.now in
    let lines = c.args.node.now.lines in
    one_answer c.hits_node.result (is_node_hit I c.in-Some.cut.now lines) c.hits_node.ensures (is_node_hit-decides I c.in-Some.cut.now lines)
    ∙ ap (λ (J : Instance). is_node_hit J c.in-Some.cut.now lines) c.instance.ensures
    ∙ ap (λ (n : TreeNode). is_node_hit b.case.instance c.in-Some.cut.now n.lines) c.requires.value
    ∙ ap (hits_in b c.args.id) (sym c.in-Some.ensures.some)
