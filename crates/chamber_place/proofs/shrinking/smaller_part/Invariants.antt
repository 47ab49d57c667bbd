use Rattle.std.proofs.Common.{ℕ, ◌<◌}
use Rattle.std.specs.List.{remove}
use Rattle.chamber_place.specs.Placing.{PlaceRefutes}
use Rattle.chamber_place.specs.Parts.{part_of}
use Rattle.chamber_place.proofs.shrinking.smaller_part.Given as goal

abbrev pub invariant-loop-number : goal.invariant-loop-number
invariant-loop-number l = (k : ℕ) → k < l.number → PlaceRefutes (part_of l.deck (remove l.places k)) l.turns → ⊥
