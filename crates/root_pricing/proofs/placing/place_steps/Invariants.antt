use Rattle.std.proofs.Common.{◌≡◌}
use Rattle.root_pricing.proofs.placing.place_steps.Given as goal

abbrev pub invariant-loop-kept : goal.invariant-loop-kept
invariant-loop-kept g l = l.placer.search.now.instance.now ≡ l.instance
