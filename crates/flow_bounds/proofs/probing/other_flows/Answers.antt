use Rattle.std.proofs.Common.{arith}
use Rattle.flow_bounds.proofs.ProbeLemmas.{flow-part}
use Rattle.flow_bounds.proofs.probing.other_flows.Goals as goal

-- the flow time of a line is a part of the node's
pub overflow_sub-result : goal.overflow_sub-result
overflow_sub-result c =
    omega (arith, c.flow_along.ensures.flow, flow-part c.args.instance.now c.args.node.now.lines c.args.chamber c.requires.chamber_in, c.requires.total)

pub returns : goal.returns
returns c =
    omega (arith, c.flow_along.ensures.flow, flow-part c.args.instance.now c.args.node.now.lines c.args.chamber c.requires.chamber_in, c.requires.total)
