use Rattle.std.proofs.Common.{◌≡◌}
use Rattle.price_search.proofs.round.place_line.Given as goal

abbrev pub invariant-loop-group : goal.invariant-loop-group
invariant-loop-group g l = l.placer.search.now.instance.now ≡ l.instance
