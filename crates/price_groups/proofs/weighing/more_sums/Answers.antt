use Rattle.std.proofs.Common.{◌≡◌, ◌+◌, max, ◌∙◌, slice_index_or}
use Rattle.std.proofs.lemmas.List.{get_or_default}
use Rattle.lock_model.specs.Fleet.{ship_at, no_ship}
use Rattle.price_groups.proofs.WeighLemmas.{more-sums}
use Rattle.price_groups.proofs.weighing.more_sums.Goals as goal

pub returns : goal.returns
returns c = λ ships are.
    let case = c.args.extension.now.case.now in
    let I = case.instance.now in
    let own : c.index-as_slice-ship.result ≡ ship_at I c.args.ship = c.index-as_slice-ship.is ∙ (λ i. slice_index_or (c.as_slice.ensures.value i) c.args.ship c.index-as_slice-ship.result) ∙ get_or_default I.ships c.args.ship c.index-as_slice-ship.result no_ship c.requires.known in
    more-sums I case.index c.args.sums.now _ c.args.ship ships
    (λ i. c.args.sums.now.duration + (own i).handling)
    (c.max.ensures ∙ (λ i. max c.args.sums.now.last (own i).arrival))
    (c.with_bit.ensures ships are.mask)
    are
