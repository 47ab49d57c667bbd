use Rattle.price_groups.specs.Masks.{AreMarks}
use Rattle.price_groups.proofs.masks.marks.Given as goal

abbrev pub invariant-loop-set : goal.invariant-loop-set
invariant-loop-set l = AreMarks l.instance l.sets l.set-index l.masks.items
