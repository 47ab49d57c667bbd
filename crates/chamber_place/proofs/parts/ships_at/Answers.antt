use Rattle.std.proofs.Common.{◌<◌, ℕ, List, All, length, sym, subst, slice_index_or}
use Rattle.chamber_place.proofs.PartLemmas.{ships-below}
use Rattle.chamber_place.proofs.parts.ships_at.Goals as goal

pub push-requires-clause-rising : goal.push-requires-clause-rising
push-requires-clause-rising c =
    let numbers = c.as_slice-numbers.result.now in
    let places = c.as_slice-place-items.result.now in
    let known = subst (λ (ps : List ℕ). All (λ k. k < length numbers) ps) (sym c.as_slice-place-items.ensures.value) (subst (λ (ns : List ℕ). All (λ k. k < length ns) c.args.places.now) (sym c.as_slice-numbers.ensures.value) c.requires) in
    subst (All (λ s. s < slice_index_or numbers (slice_index_or places c.loop-place.place-index 0) 0)) (sym c.loop-place.invariant)
    (ships-below numbers places c.loop-place.place-index c.loop-place-test.true c.as_slice-numbers.ensures.rising c.as_slice-place-items.ensures.rising known)
