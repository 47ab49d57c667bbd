use Rattle.std.proofs.Common.{◌≡◌, length}
use Rattle.flow_bounds.specs.Roster.{AreRests}
use Rattle.flow_bounds.proofs.roster.rests.Given as goal

abbrev pub invariant-loop-depth : goal.invariant-loop-depth
invariant-loop-depth l = (length l.rests.items ≡ l.depth) × AreRests l.instance l.rests.items
