use Rattle.lock_rules.proofs.NodeLemmas.{children-nodes}
use Rattle.lock_rules.proofs.ChildLemmas.{children-distinct}
use Rattle.master_branch.proofs.LawLemmas.{under-one-child}
use Rattle.master_branch.proofs.laws.children_split_plans.Goals as goal

pub returns : goal.returns
returns c = record {
  nodes = children-nodes c.args.instance.now c.args.node.now.depth c.args.node.now.lines c.requires.node c.requires.lacks;
  differ = children-distinct c.args.instance.now c.args.node.now.depth c.args.node.now.lines c.requires.node c.requires.lacks;
  split = λ P legal under. under-one-child c.args.instance.now c.args.node.now P c.requires.node c.requires.lacks legal under;
}
