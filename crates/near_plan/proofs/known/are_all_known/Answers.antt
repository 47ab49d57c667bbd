use Rattle.std.proofs.Common.{arith}
use Rattle.near_plan.proofs.GroupLemmas.{all_known}
use Rattle.near_plan.proofs.known.are_all_known.Goals as goal

pub returns : goal.returns
returns c = all_known c.args.instance.now c.args.groups.now c.loop-group.group-index (omega (arith, c.loop-group-test.false)) c.loop-group.invariant
