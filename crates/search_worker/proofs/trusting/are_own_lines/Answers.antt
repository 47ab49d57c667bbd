use Rattle.std.proofs.Common.{subst, below_more, rules}
use Rattle.search_worker.specs.Owning.{IsOwnLine}
use Rattle.search_worker.proofs.trusting.are_own_lines.Goals as goal

pub loop-chamber-preserved : goal.loop-chamber-preserved
loop-chamber-preserved c =
    let own : IsOwnLine c.args.instance.now c.args.first.now c.loop-chamber.chamber c.line.result.now = search rules in
    below_more _ _ c.loop-chamber.invariant (subst (IsOwnLine c.args.instance.now c.args.first.now c.loop-chamber.chamber) c.line.ensures.value own)
