use Rattle.std.proofs.Common.{length, ap, arith}
use Rattle.lock_rules.specs.Node.{line_at}
use Rattle.flow_bounds.proofs.WalkLemmas.{last-walk}
use Rattle.flow_bounds.proofs.node_walks.flow_along.Goals as goal

-- what the last of the walks has added is the flow time of the line
pub returns-clause-flow : goal.returns-clause-flow
returns-clause-flow c =
    last-walk c.args.instance.now c.args.chamber (line_at c.args.node.now.lines c.args.chamber) c.args.along.now.walks c.requires.along.walks (length c.line-groups.result.now) (ap length c.line-groups.ensures.value)

pub returns-clause-small : goal.returns-clause-small
returns-clause-small c =
    omega (
      arith,
      c.requires.along.walks.flow (length c.line-groups.result.now) (omega (arith, ap length c.line-groups.ensures.value)),
      c.line-groups.ensures.fits,
    )
