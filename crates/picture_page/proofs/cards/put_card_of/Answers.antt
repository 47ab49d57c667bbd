use Rattle.std.proofs.Common.{◌≡◌, ◌∙◌, ap, get_or, subst, sym}
use Rattle.std.proofs.lemmas.List.{get_or_default}
use Rattle.lock_rules.specs.Lines.{lockage_at}
use Rattle.day_play.specs.Lawful.{IsWholeLockage}
use Rattle.picture_page.proofs.cards.put_card_of.Goals as goal

pub put_card-requires : goal.put_card-requires
put_card-requires c =
    let P = c.args.plan.now in
    let place = c.args.passage.now.place in
    let own = c.index-lockages-place.result in
    let same : own ≡ lockage_at P place =
    c.index-lockages-place.is ∙ ap (λ ls. get_or ls place own) c.as_slice-lockages.ensures.value ∙ get_or_default P.lockages place own _ c.requires.place in
    subst (IsWholeLockage c.args.instance.now) (sym same) c.requires.whole
