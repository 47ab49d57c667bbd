use Rattle.std.proofs.Common.{◌≡◌, sym, ◌∙◌, subst}
use Rattle.lock_model.specs.declared.instance.Instance.{Instance}
use Rattle.master_branch.specs.Node.{IsNodeOf}
use Rattle.lock_rules.specs.Node.{Node}
use Rattle.book_core.proofs.MissingLemmas.{is-missing, not-missing, probe-is}
use Rattle.book_core.proofs.book.Book.probe_in.Goals as goal

node-in : (I J : Instance) (node : Node) → I ≡ J → IsNodeOf J node → IsNodeOf I node
node-in I J node same h = subst (λ K. IsNodeOf K node) (sym same) h

pub returns-then-is_missing-clause-some : goal.returns-then-is_missing-clause-some
returns-then-is_missing-clause-some c =
    let b = c.args.self.now in
    let n = c.args.node.now in
    let good = node-in c.instance.result.now b.case.instance n c.instance.ensures c.requires.node in
    let again = node-in c.instance-then-is_missing.result.now b.case.instance n c.instance-then-is_missing.ensures c.requires.node in (
      is-missing b c.args.id c.instance.result.now c.instance.ensures n c.requires.value good c.args.ship c.if-is_missing.ensures.missing,
      c.probe.ensures.value ∙ probe-is b c.args.id c.instance-then-is_missing.result.now c.instance-then-is_missing.ensures n c.requires.value again c.args.ship,
    )

pub returns-else-is_missing-clause-none : goal.returns-else-is_missing-clause-none
returns-else-is_missing-clause-none c =
    let b = c.args.self.now in
    let n = c.args.node.now in
    let good = node-in c.instance.result.now b.case.instance n c.instance.ensures c.requires.node in
    not-missing b c.args.id c.instance.result.now c.instance.ensures n c.requires.value good c.args.ship c.if-is_missing.ensures.other
