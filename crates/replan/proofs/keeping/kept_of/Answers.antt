use Rattle.std.proofs.Common.{length, ap, arith}
use Rattle.replan.specs.Kept.{starts_before}
use Rattle.replan.proofs.ListLemmas.{filtered_few}
use Rattle.replan.proofs.keeping.kept_of.Goals as goal

pub push-requires : goal.push-requires
push-requires c = omega (arith, ap length c.loop-lockage.invariant, filtered_few (starts_before c.args.from) c.as_slice-lockage-items.result.now c.loop-lockage.lockage-index, c.as_slice-lockage-items.ensures.fits)
