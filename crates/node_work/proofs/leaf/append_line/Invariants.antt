use Rattle.std.proofs.Common.{◌≡◌, ◌+◌, ◌++◌, length, take}
use Rattle.lock_rules.specs.Leaf.{lockages_on}
use Rattle.node_work.specs.Moorings.{spots_by}
use Rattle.node_work.proofs.leaf.append_line.Given as goal

abbrev pub invariant-loop-i : goal.invariant-loop-i
invariant-loop-i l =
    (l.lockages ≡ l.fn.lockages ++ take l.i (lockages_on l.instance l.chamber (spots_by l.moorings l.chamber) l.line))
    × (length l.lockages ≡ length l.fn.lockages + l.i)
