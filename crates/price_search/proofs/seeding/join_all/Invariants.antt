use Rattle.std.proofs.Common.{◌≡◌}
use Rattle.price_search.proofs.seeding.join_all.Given as goal

abbrev pub invariant-loop-ship : goal.invariant-loop-ship
invariant-loop-ship g l = l.placer.search.now.instance.now ≡ l.instance
