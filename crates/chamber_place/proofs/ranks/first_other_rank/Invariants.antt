use Rattle.std.proofs.Common.{ℕ, ◌<◌}
use Rattle.refute_rules.specs.Decided.{HasOtherRank}
use Rattle.chamber_place.proofs.ranks.first_other_rank.Given as goal

abbrev pub invariant-loop-ship : goal.invariant-loop-ship
invariant-loop-ship l = (i : ℕ) → i < l.ship → HasOtherRank l.choices i → ⊥
