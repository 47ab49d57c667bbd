use Rattle.std.proofs.Common.{List, map, ap, sym, ◌∙◌, subst, slice_index_or}
use Rattle.lock_model.specs.Deck.{Deck, IsDeck, no_size}
use Rattle.lock_model.specs.declared.deck.Size.{Size}
use Rattle.refute_rules.specs.Reasons.{AreSome}
use Rattle.chamber_place.proofs.PartLemmas.{part-deck}
use Rattle.chamber_place.proofs.parts.part_of.Goals as goal

pub invariant_of-result : goal.invariant_of-result
invariant_of-result c =
    let i = c.deck.inside in
    let d : Deck = record { length = i.length; width = i.width; end = i.end; gap = i.gap; side = i.side; ships = i.ships } in
    let sizes = c.sizes_at.ensures ∙ ap (λ (sizes : List Size). map (λ k. slice_index_or sizes k no_size) c.as_slice-2.result.now) c.as_slice.ensures.value in
    let some = subst (λ e. AreSome e c.as_slice-2.result.now) (sym c.deck.view_is) (subst (AreSome c.args.deck.now) (sym c.as_slice-2.ensures.value) c.requires) in
    subst (λ ships. IsDeck (record { length = i.length; width = i.width; end = i.end; gap = i.gap; side = i.side; ships = ships })) (sym sizes) (part-deck d c.as_slice-2.result.now c.deck.invariant some c.as_slice-2.ensures.fits)

pub returns-clause-limits : goal.returns-clause-limits
returns-clause-limits c =
    let i = c.deck.inside in
    let d : Deck = record { length = i.length; width = i.width; end = i.end; gap = i.gap; side = i.side; ships = i.ships } in
    let sizes = c.sizes_at.ensures ∙ ap (λ (sizes : List Size). map (λ k. slice_index_or sizes k no_size) c.as_slice-2.result.now) c.as_slice.ensures.value in
    let some = subst (λ e. AreSome e c.as_slice-2.result.now) (sym c.deck.view_is) (subst (AreSome c.args.deck.now) (sym c.as_slice-2.ensures.value) c.requires) in
    subst (λ ships. IsDeck (record { length = i.length; width = i.width; end = i.end; gap = i.gap; side = i.side; ships = ships })) (sym sizes) (part-deck d c.as_slice-2.result.now c.deck.invariant some c.as_slice-2.ensures.fits)
