use Rattle.std.proofs.Common.{ap, ◌∙◌, slice_index_or, ℤ, List}
use Rattle.std.specs.declared.option.Option.{Option}
use Rattle.spot_place.specs.Heights.{height_at}
use Rattle.spot_place.proofs.KeptLemmas.{kept-height}
use Rattle.spot_place.proofs.spot_case.SpotCase.height.Goals as goal

pub returns : goal.returns
returns c =
    let i = c.self.inside in
    let level = c.index-deref-len.result in
    ap (λ (hs : List (Option ℤ)). height_at hs c.args.ship) c.as_slice.ensures
    ∙ kept-height i.deck i.values i.berths.items i.places.items i.levels.items c.self.invariant c.args.self.now c.self.view_is level c.len.result c.args.ship c.len.ensures.value (c.index-deref-len.is ∙ ap (λ (ls : List (List (Option ℤ))). slice_index_or ls c.len.result level) c.deref.ensures.0) c.requires
