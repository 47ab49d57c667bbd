use Rattle.std.proofs.Common.{ℕ, ◌<◌, slice_index_or}
use Rattle.lock_model.specs.Deck.{no_size}
use Rattle.deck_cuts.specs.CutHits.{IsShipHit}
use Rattle.deck_cuts.proofs.hits.are_ships_hit.Given as goal

abbrev pub invariant-loop-i : goal.invariant-loop-i
invariant-loop-i l = (k : ℕ) → k < l.i → IsShipHit l.instance l.ships (slice_index_or l.own k 0) (slice_index_or l.sizes k no_size)
