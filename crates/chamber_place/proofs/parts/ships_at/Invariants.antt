use Rattle.std.proofs.Common.{◌≡◌, map, take, slice_index_or}
use Rattle.chamber_place.proofs.parts.ships_at.Given as goal

abbrev pub invariant-loop-place : goal.invariant-loop-place
invariant-loop-place l = l.own ≡ map (λ k. slice_index_or l.numbers k 0) (take l.place-index l.place-items)
