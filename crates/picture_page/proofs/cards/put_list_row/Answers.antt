use Rattle.std.proofs.Common.{append_assoc}
use Rattle.std.proofs.lemmas.Result.{IfOk-equal}
use Rattle.picture_page.specs.Cards.{list_row}
use Rattle.picture_page.proofs.cards.put_list_row.Goals as goal

pub returns : goal.returns
unfolding list_row
returns c =
    IfOk-equal c.put_form.result _ _ _ c.put_form.ensures
    (rw (
      c.in_ok-put_berth.ensures,
      c.in_ok-put_list_ship.ensures,
      c.ship_of.ensures.value,
      c.spot_of-spot.ensures,
    ) (simp append_assoc))
