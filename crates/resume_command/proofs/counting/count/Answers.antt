use Rattle.std.proofs.Common.{◌∙◌, ap, arith}
use Rattle.std.proofs.lemmas.List.{take_all}
use Rattle.resume_command.specs.Prior.{prior_of}
use Rattle.resume_command.proofs.PriorLemmas.{prior-more}
use Rattle.resume_command.proofs.counting.count.Goals as goal

pub loop-mark-preserved : goal.loop-mark-preserved
loop-mark-preserved c = record {
  total = prior-more c.args.marks.now c.loop-mark.mark-index c.loop-mark.count c.weight-count.result _ c.loop-mark-test.true c.loop-mark.invariant.total c.weight-count.ensures.value;
  few = let most = c.weight-count.ensures.most in let few = c.loop-mark.invariant.few in omega (arith, most, few);
}

pub returns : goal.returns
returns c = c.loop-mark.invariant.total ∙ ap prior_of (take_all c.loop-mark.mark-index c.args.marks.now c.loop-mark-test.false)
