use Rattle.std.proofs.Common.{sym, subst}
use Rattle.lock_rules.specs.Trace.{IsUnder}
use Rattle.lock_rules.proofs.NodeLemmas.{root-under}
use Rattle.master_branch.proofs.node.root.Goals as goal

pub returns-clause-under : goal.returns-clause-under
returns-clause-under c = λ P. subst (λ lines. IsUnder c.args.instance.now 0 lines P) (sym c.new.ensures) (root-under c.args.instance.now P)
