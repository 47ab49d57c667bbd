use Rattle.std.proofs.Common.{◌≡◌}
use Rattle.price_search.proofs.seeding.grow_from_each.Given as goal

abbrev pub invariant-loop-place : goal.invariant-loop-place
invariant-loop-place g l = l.placer.search.now.instance.now ≡ l.instance
