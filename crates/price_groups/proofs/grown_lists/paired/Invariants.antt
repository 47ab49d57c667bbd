use Rattle.price_groups.specs.GrownLists.{ArePaired}
use Rattle.price_groups.proofs.grown_lists.paired.Given as goal

abbrev pub invariant-loop-place : goal.invariant-loop-place
invariant-loop-place l = ArePaired l.listed.groups.items l.listed.sums.items l.place l.pairs.items
