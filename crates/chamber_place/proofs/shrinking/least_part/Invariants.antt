use Rattle.std.proofs.Common.{length}
use Rattle.chamber_place.specs.Parts.{IsPart, IsSmaller}
use Rattle.chamber_place.proofs.shrinking.least_part.Given as goal

abbrev pub decreases-loop-alloc : goal.decreases-loop-alloc
decreases-loop-alloc l = length l.least.places

abbrev pub invariant-loop-alloc : goal.invariant-loop-alloc
invariant-loop-alloc l = record {
  part : IsPart l.deck l.least.places l.least.refutation;
  smaller : IsSmaller l.deck l.turns l.fn.part.places l.least.places;
}
