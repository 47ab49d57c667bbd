use Rattle.std.proofs.Common.{ℕ, ◌<◌}
use Rattle.refute_rules.specs.Decided.{HasOtherRank}
use Rattle.spot_place.specs.OnWay.{lying}
use Rattle.spot_place.proofs.berths.first_of_other_rank.Given as goal

abbrev pub invariant-loop-ship : goal.invariant-loop-ship
invariant-loop-ship l = (i : ℕ) → i < l.ship → HasOtherRank (lying l.berths) i → ⊥
