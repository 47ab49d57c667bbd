use Rattle.std.proofs.Common.{◌≡◌, length, sum_by}
use Rattle.std.specs.List.{flat_map}
use Rattle.lock_rules.specs.Arrival.{numbers_from}
use Rattle.lock_rules.specs.Leaf.{lockages_on}
use Rattle.lock_rules.specs.Node.{line_at}
use Rattle.node_work.specs.Moorings.{spots_by}
use Rattle.node_work.proofs.leaf.leaf_plan.Given as goal

abbrev pub invariant-loop-chamber : goal.invariant-loop-chamber
invariant-loop-chamber l =
    (l.lockages ≡ flat_map (λ c. lockages_on l.instance c (spots_by l.moorings c) (line_at l.node.lines c)) (numbers_from 0 l.chamber))
    × (length l.lockages ≡ sum_by (λ c. length (line_at l.node.lines c)) (numbers_from 0 l.chamber))
