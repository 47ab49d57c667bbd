use Rattle.std.proofs.Common.{ℕ, ◌<◌, [], slice_index_or}
use Rattle.lock_model.specs.declared.way.Way.TheVariants.{Up}
use Rattle.sweep.specs.Judging.{IsOwnGroup}
use Rattle.sweep.proofs.judging.are_own_groups.Given as goal

abbrev pub invariant-loop-group : goal.invariant-loop-group
invariant-loop-group l = (k : ℕ) → k < l.group-index → IsOwnGroup l.instance l.chamber (slice_index_or l.line k (record { way = Up; ships = [] }))
