use Rattle.std.proofs.Common.{ℕ, ◌<◌, [], slice_index_or}
use Rattle.lock_model.specs.declared.way.Way.TheVariants.{Up}
use Rattle.price_groups.specs.Sparing.{IsSpared}
use Rattle.price_groups.proofs.forbidden.are_spared.Given as goal

abbrev pub invariant-loop-group : goal.invariant-loop-group
invariant-loop-group l = (k : ℕ) → k < l.group-index → IsSpared l.sets (slice_index_or l.groups k (record { way = Up; ships = [] }))
