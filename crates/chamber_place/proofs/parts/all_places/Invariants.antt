use Rattle.std.proofs.Common.{◌≡◌}
use Rattle.lock_rules.specs.Arrival.{numbers_from}
use Rattle.chamber_place.proofs.parts.all_places.Given as goal

abbrev pub invariant-loop-place : goal.invariant-loop-place
invariant-loop-place l = l.places ≡ numbers_from 0 l.place
