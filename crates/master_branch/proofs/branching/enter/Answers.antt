use Rattle.lock_rules.specs.Node.{line_at}
use Rattle.master_branch.proofs.JoinLemmas.{group-absent}
use Rattle.master_branch.proofs.branching.enter.Goals as goal

pub join-requires-clause-absent : goal.join-requires-clause-absent
join-requires-clause-absent c = group-absent c.args.ship (line_at c.args.lines.now c.in-Join.chamber) c.in-Join.place (c.requires.absent c.in-Join.chamber)
