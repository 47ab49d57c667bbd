use Rattle.std.proofs.Common.{◌≡◌, map, take, slice_index_or}
use Rattle.lock_model.specs.Deck.{no_size}
use Rattle.chamber_place.proofs.parts.sizes_at.Given as goal

abbrev pub invariant-loop-place : goal.invariant-loop-place
invariant-loop-place l = l.own ≡ map (λ k. slice_index_or l.sizes k no_size) (take l.place-index l.places)
