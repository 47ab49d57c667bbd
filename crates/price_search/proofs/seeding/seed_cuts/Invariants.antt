use Rattle.std.proofs.Common.{◌≡◌}
use Rattle.price_search.proofs.seeding.seed_cuts.Given as goal

abbrev pub invariant-loop-chamber : goal.invariant-loop-chamber
invariant-loop-chamber g l = l.placer.search.now.instance.now ≡ l.instance
